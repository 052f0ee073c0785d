use Rattle.std.proofs.Common.{Err, ap, arith}
use Rattle.ac_record.specs.declared.codes.FrameFault.{FrameFault}
use Rattle.ac_dec.specs.Inside.{decoding_in}
use Rattle.ac_dec.proofs.Changes.{Read, same_not_refused, change_refused, change_not_same}
use Rattle.ac_dec.proofs.state.State.accept.Goals as goal

pub returns-in-None-first_change-clause-refused : goal.returns-in-None-first_change-clause-refused
returns-in-None-first_change-clause-refused c = λ fault refusal.
    let r : Read c.args.bytes.now (decoding_in c.args.self.now) c.in-Some.first c.kind-kind.result c.read.new.out = record {
      small = λ k lt. omega (arith, c.type_inv.bytes k);
      reading = c.in-Ok.ensures.value;
      is_kind = c.kind-kind.ensures;
      is_first = c.in-Some.is;
    } in
    absurd (same_not_refused c.args.bytes.now (decoding_in c.args.self.now) c.in-Some.first c.kind-kind.result c.read.new.out fault r c.in-None-first_change.ensures.same refusal)

pub returns-in-Some-first_change-clause-complete : goal.returns-in-Some-first_change-clause-complete
returns-in-Some-first_change-clause-complete c = λ g reading same.
    let r : Read c.args.bytes.now (decoding_in c.args.self.now) c.in-Some.first c.kind-kind.result c.read.new.out = record {
      small = λ k lt. omega (arith, c.type_inv.bytes k);
      reading = c.in-Ok.ensures.value;
      is_kind = c.kind-kind.ensures;
      is_first = c.in-Some.is;
    } in
    absurd (change_not_same c.args.bytes.now (decoding_in c.args.self.now) c.in-Some.first c.kind-kind.result c.read.new.out g c.in-Some-first_change.row r c.in-Some-first_change.ensures.change reading same)

pub returns-in-Some-first_change-clause-refused : goal.returns-in-Some-first_change-clause-refused
returns-in-Some-first_change-clause-refused c = λ fault refusal.
    let r : Read c.args.bytes.now (decoding_in c.args.self.now) c.in-Some.first c.kind-kind.result c.read.new.out = record {
      small = λ k lt. omega (arith, c.type_inv.bytes k);
      reading = c.in-Ok.ensures.value;
      is_kind = c.kind-kind.ensures;
      is_first = c.in-Some.is;
    } in
    ap (λ (e : FrameFault). Err e) (change_refused c.args.bytes.now (decoding_in c.args.self.now) c.in-Some.first c.kind-kind.result c.read.new.out c.in-Some-first_change.row fault r c.in-Some-first_change.ensures.change refusal)
