use Rattle.std.proofs.Common.{◌≤◌, ◌∙◌, sym, ap₂, subst, ℕ}
use Rattle.ac_base.specs.declared.spans.Span.{Span}
use Rattle.ac_base.specs.Fit.{exponent_bits}
use Rattle.ac_base.specs.Spans.{greatest_kind}
use Rattle.ac_sent.specs.Fields.{code_at}
use Rattle.ac_packing.proofs.Allocating.{code_read}
use Rattle.ac_packing.proofs.parts.channel_exponents.Goals as goal

pub exponent_bits-requires-clause-code : goal.exponent_bits-requires-clause-code
exponent_bits-requires-clause-code c =
    let q = c.args.q.now in
    let is = c.requires.asked in
    let code = code_read q is c.args.c c.from.result c.args.b c.code-code.result c.index-q-from.result c.requires.channel c.from.ensures c.code-code.ensures.value in
    subst (λ (x : ℕ). x ≤ greatest_kind c.span.result.lead) (sym code)
    (subst (λ (s : Span). code_at q c.args.c c.args.b ≤ greatest_kind s.lead) (sym c.span.ensures.value) (is.assigned.kinds c.args.c c.args.b c.requires.channel c.requires.block))

pub returns-clause-value : goal.returns-clause-value
returns-clause-value c =
    let code = code_read c.args.q.now c.requires.asked c.args.c c.from.result c.args.b c.code-code.result c.index-q-from.result c.requires.channel c.from.ensures c.code-code.ensures.value in
    c.exponent_bits.ensures.value ∙ ap₂ exponent_bits code c.span.ensures.value
