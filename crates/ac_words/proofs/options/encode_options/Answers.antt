use Rattle.std.proofs.Common.{◌≡◌, ◌∙◌, ap, Err, Option, codes, map, string_bytes, subst, sym}
use Rattle.ac_words.specs.Grammar.{BandwidthOf, CoupleOf, NodesOf, RateOf, Text}
use Rattle.ac_words.specs.declared.fault.WordsFault.{WordsFault}
use Rattle.ac_words.specs.declared.fault.WordsFault.TheVariants.{Usage}
use Rattle.ac_words.proofs.Said.{encode_from, encode_read, encode_whole}
use Rattle.ac_words.proofs.options.encode_options.Goals as goal

pub returns-in-Err-clause-cause : goal.returns-in-Err-clause-cause
returns-in-Err-clause-cause c = λ u o h.
    let fault : c.in-Err.fault ≡ Usage = cc u in
    c.in-Err.ensures.cause (ap (λ (e : WordsFault). Err e) fault) (encode_whole (map string_bytes c.args.words.now) o h)

pub returns-in_default-clause-cause : goal.returns-in_default-clause-cause
returns-in_default-clause-cause c = λ u o h.
    c.in_default.ensures o.rate
    (subst (λ (v : Option Text). RateOf v o.rate) (sym (c.get_str.ensures ∙ c.in-Ok.ensures.found (codes "rate"))) (encode_read (map string_bytes c.args.words.now) o h).rate_is)

pub returns-in_default-nodes_in-clause-cause : goal.returns-in_default-nodes_in-clause-cause
returns-in_default-nodes_in-clause-cause c = λ u o h.
    c.in_default-nodes_in.ensures o.nodes
    (subst (λ (v : Option Text). NodesOf v o.nodes) (sym (c.get_str-2.ensures ∙ c.in-Ok.ensures.found (codes "nodes"))) (encode_read (map string_bytes c.args.words.now) o h).nodes_is)

pub returns-in_default-bandwidth_in-clause-cause : goal.returns-in_default-bandwidth_in-clause-cause
returns-in_default-bandwidth_in-clause-cause c = λ u o h.
    c.in_default-bandwidth_in.ensures o.bw
    (subst (λ (v : Option Text). BandwidthOf v o.bw) (sym (c.get_str-3.ensures ∙ c.in-Ok.ensures.found (codes "bw"))) (encode_read (map string_bytes c.args.words.now) o h).bw_is)

pub returns-in_default-couple_in-clause-cause : goal.returns-in_default-couple_in-clause-cause
returns-in_default-couple_in-clause-cause c = λ u o h.
    c.in_default-couple_in.ensures o.couple
    (subst (λ (v : Option Text). CoupleOf v o.couple) (sym (c.get_str-4.ensures ∙ c.in-Ok.ensures.found (codes "couple"))) (encode_read (map string_bytes c.args.words.now) o h).couple_is)

pub returns-clause-value : goal.returns-clause-value
returns-clause-value c =
    let rate = c.in-Some.rate in
    let nodes = c.in-Some-nodes_in.nodes in
    let bw = c.in-Some-bandwidth_in.bw in
    let couple = c.in-Some-couple_in.couple in
    encode_from (map string_bytes c.args.words.now) record { rate = rate; nodes = nodes; bw = bw; couple = couple } c.in-Ok.ensures.whole
    record {
      rate_is = subst (λ (v : Option Text). RateOf v rate) (c.get_str.ensures ∙ c.in-Ok.ensures.found (codes "rate")) c.in-Some.ensures;
      nodes_is = subst (λ (v : Option Text). NodesOf v nodes) (c.get_str-2.ensures ∙ c.in-Ok.ensures.found (codes "nodes")) c.in-Some-nodes_in.ensures;
      bw_is = subst (λ (v : Option Text). BandwidthOf v bw) (c.get_str-3.ensures ∙ c.in-Ok.ensures.found (codes "bw")) c.in-Some-bandwidth_in.ensures;
      couple_is = subst (λ (v : Option Text). CoupleOf v couple) (c.get_str-4.ensures ∙ c.in-Ok.ensures.found (codes "couple")) c.in-Some-couple_in.ensures;
    }
