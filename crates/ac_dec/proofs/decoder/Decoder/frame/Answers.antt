use Rattle.std.proofs.Common.{◌≡◌, ap, sym, subst, ◌∙◌}
use Rattle.std.specs.Option.{ForSome}
use Rattle.ac_dec.specs.declared.state.State.{State}
use Rattle.ac_dec.specs.Decoding.{Decoding, kind_of, IsRefusal}
use Rattle.ac_dec.specs.Inside.{decoding_in}
use Rattle.ac_dec.proofs.decoder.Decoder.frame.Goals as goal

pub returns-clause-complete : goal.returns-clause-complete
returns-clause-complete c = λ g reading same.
    let e : decoding_in c.deref_mut.result.now ≡ c.args.self.now = ap (λ (a : State). decoding_in a) c.deref_mut.ensures.value ∙ c.self.view_is in
    c.frame.ensures.complete g reading (subst (λ (v : Decoding). ForSome v.kind (λ k. k ≡ kind_of g)) (sym e) same)

pub returns-clause-refused : goal.returns-clause-refused
returns-clause-refused c = λ fault refusal.
    let e : decoding_in c.deref_mut.result.now ≡ c.args.self.now = ap (λ (a : State). decoding_in a) c.deref_mut.ensures.value ∙ c.self.view_is in
    c.frame.ensures.refused fault (subst (λ (v : Decoding). IsRefusal v c.args.bytes.now fault) (sym e) refusal)
