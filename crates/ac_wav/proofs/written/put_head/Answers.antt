use Rattle.std.proofs.Common.{◌≡◌, ◌*◌, ◌++◌, List, ℕ, take, arith, ap, sym, ◌∙◌}
use Rattle.std.proofs.lemmas.List.{take_all}
use Rattle.byteorder.specs.Endian.{little_bytes}
use Rattle.ac_wav.specs.Written.{head_front, head_depth, head_end, head_of_layout}
use Rattle.ac_wav.proofs.written.put_head.Goals as goal

pub returns : goal.returns
unfolding head_of_layout
returns c =
    let a1 : take 22 c.put.new.out ≡ head_front = c.put.ensures in
    let a2 : take 24 c.put_short.new.out ≡ head_front ++ little_bytes 2 c.args.channels = c.put_short.ensures ∙ (ap (λ l. l ++ little_bytes 2 c.from.result) a1 ∙ ap (λ n. head_front ++ little_bytes 2 n) c.from.ensures) in
    let a3 : take 28 c.put_long.new.out ≡ head_front ++ little_bytes 2 c.args.channels ++ little_bytes 4 c.args.rate = c.put_long.ensures ∙ ap (λ l. l ++ little_bytes 4 c.args.rate) a2 in
    let rate : c.args.rate * c.from-2.result ≡ c.args.rate * (3 * c.args.channels) = ap (λ n. c.args.rate * n) c.from-2.ensures in
    let a4 : take 32 c.put_long-2.new.out ≡ head_front ++ little_bytes 2 c.args.channels ++ little_bytes 4 c.args.rate ++ little_bytes 4 (c.args.rate * (3 * c.args.channels)) =
    c.put_long-2.ensures ∙ (ap (λ l. l ++ little_bytes 4 (c.args.rate * c.from-2.result)) a3 ∙ ap (λ n. head_front ++ little_bytes 2 c.args.channels ++ little_bytes 4 c.args.rate ++ little_bytes 4 n) rate) in
    let front : List ℕ = head_front ++ little_bytes 2 c.args.channels ++ little_bytes 4 c.args.rate ++ little_bytes 4 (c.args.rate * (3 * c.args.channels)) in
    let a5 : take 34 c.put_short-2.new.out ≡ front ++ little_bytes 2 (3 * c.args.channels) = c.put_short-2.ensures ∙ (ap (λ l. l ++ little_bytes 2 c.from-3.result) a4 ∙ ap (λ n. front ++ little_bytes 2 n) c.from-3.ensures) in
    let a6 : take 40 c.put-2.new.out ≡ front ++ little_bytes 2 (3 * c.args.channels) ++ head_depth = c.put-2.ensures ∙ ap (λ l. l ++ head_depth) a5 in
    let a7 : take 44 c.put_long-3.new.out ≡ front ++ little_bytes 2 (3 * c.args.channels) ++ head_depth ++ little_bytes 4 c.args.mask = c.put_long-3.ensures ∙ ap (λ l. l ++ little_bytes 4 c.args.mask) a6 in
    let a8 : take 68 c.put-3.new.out ≡ front ++ little_bytes 2 (3 * c.args.channels) ++ head_depth ++ little_bytes 4 c.args.mask ++ head_end = c.put-3.ensures ∙ ap (λ l. l ++ head_end) a7 in
    sym (take_all 68 c.put-3.new.out (omega (arith, c.put-3.array_long))) ∙ a8
