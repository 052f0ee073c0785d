use Rattle.ac3.proofs.perform.work.Goals as goal

pub returns-in-Some : goal.returns-in-Some
returns-in-Some g c =
    let e = c.run.ensures in
    rw c.in-Some.is (record { told = e.told; ok = e.ok; cause = e.cause; most_read = e.most_read; rose = e.rose; never_falls = e.never_falls })

pub returns-in-None : goal.returns-in-None
returns-in-None g c =
    let e = c.run-in-None.ensures in
    rw c.in-None.is (record { told = e.told; ok = e.ok; cause = e.cause; most_read = e.most_read; rose = e.rose; never_falls = e.never_falls })
