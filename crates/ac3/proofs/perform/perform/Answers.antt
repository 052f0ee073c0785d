use Rattle.std.specs.Prelude.{Err, map, string_bytes}
use Rattle.std.proofs.Common.{ap}
use Rattle.ac_words.specs.Asked.{texts_of}
use Rattle.ac_words.specs.declared.fault.WordsFault.{WordsFault}
use Rattle.ac3.proofs.Opens.{fault_said, fault_unsaid, words_said, words_unsaid}
use Rattle.ac3.proofs.perform.perform.Goals as goal

pub returns-in_default-clause-stopped : goal.returns-in_default-clause-stopped
returns-in_default-clause-stopped g c =
    fault_said (map string_bytes c.args.words.now) (texts_of c.in-Ok.named) _ _ _ c.end_with.result c.in-Ok.ensures.value c.in_default.ensures c.end_with.ensures

pub returns-in_default-clause-unsaid : goal.returns-in_default-clause-unsaid
returns-in_default-clause-unsaid g c =
    fault_unsaid (map string_bytes c.args.words.now) (texts_of c.in-Ok.named) _ _ _ c.end_with.result c.in-Ok.ensures.value c.in_default.ensures c.end_with.ensures

pub returns-in-Err-clause-no_words : goal.returns-in-Err-clause-no_words
returns-in-Err-clause-no_words g c =
    words_said (map string_bytes c.args.words.now) c.in-Err.fault _ _ c.refuse.result (λ is. c.in-Err.ensures.cause (ap (λ (e : WordsFault). Err e) is)) c.refuse.ensures

pub returns-in-Err-clause-unsaid : goal.returns-in-Err-clause-unsaid
returns-in-Err-clause-unsaid g c =
    words_unsaid (map string_bytes c.args.words.now) c.in-Err.fault _ _ c.refuse.result (λ is. c.in-Err.ensures.cause (ap (λ (e : WordsFault). Err e) is)) c.refuse.ensures
