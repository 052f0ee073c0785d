use Rattle.std.proofs.Common.{◌≤◌, ◌<◌, ℕ, take, arith, sym, subst}
use Rattle.std.proofs.lemmas.List.{take_more_set, length-set}
use Rattle.ac_base.specs.Shape.{IsSpan}
use Rattle.ac_alloc.specs.Pointers.{most_offset}
use Rattle.ac_rows.specs.Blocks.{Block}
use Rattle.ac_rows.specs.Filled.{HasSpans, span_in}
use Rattle.ac_rows.proofs.FilledSpans.{filled_has_spans}
use Rattle.ac_rows.proofs.HeadSound.{head_channels}
use Rattle.ac_record.specs.Channels.{coded_in}
use Rattle.ac_record.specs.Held.{offset_of}
use Rattle.ac_reading.proofs.Blocks.{whole_lawful}
use Rattle.ac_reading.proofs.HeldSpells.{coded_is_span}
use Rattle.ac_reading.proofs.Keeping.{pointers_stay, exponents_kept, pointers_kept}
use Rattle.ac_reading.proofs.Offsets.{offset_small}
use Rattle.ac_reading.proofs.OneBlock.{one_read, one_refused}
use Rattle.ac_reading.proofs.reading.read_one.Goals as goal

pub filled-whole-requires : goal.filled-whole-requires
filled-whole-requires c = head_channels c.args.head.now c.requires.head

pub spans-spans-requires : goal.spans-spans-requires
spans-spans-requires c =
    let e = take c.args.b c.args.out.now.block in
    let v = c.in_ok-block.ensures.value in
    subst (HasSpans c.args.head.now) (sym c.filled-whole.ensures) (filled_has_spans c.args.head.now e c.in_ok-block.block c.requires.head c.requires.earlier (whole_lawful c.args.head.now e c.in_ok-block.block v.0 v.1))

pub put_exponents-requires-clause-block : goal.put_exponents-requires-clause-block
put_exponents-requires-clause-block c = let v = c.in_ok-block.ensures.value in whole_lawful c.args.head.now (take c.args.b c.args.out.now.block) c.in_ok-block.block v.0 v.1

pub put_pointers-requires-clause-head : goal.put_pointers-requires-clause-head
put_pointers-requires-clause-head c = head_channels c.args.head.now c.requires.head

pub put_pointers-requires-clause-coded : goal.put_pointers-requires-clause-coded
put_pointers-requires-clause-coded c =
    let h = c.args.head.now in
    let e = take c.args.b c.args.out.now.block in
    let v = c.in_ok-block.ensures.value in
    subst (λ (w : Block). (x : ℕ) → x < coded_in h w → IsSpan (span_in h w x)) (sym c.filled-whole.ensures)
    (λ x lt. coded_is_span h e c.in_ok-block.block x c.requires.head c.requires.earlier (whole_lawful h e c.in_ok-block.block v.0 v.1) lt)

pub put_pointers-requires-clause-offsets : goal.put_pointers-requires-clause-offsets
put_pointers-requires-clause-offsets c =
    let h = c.args.head.now in
    let e = take c.args.b c.args.out.now.block in
    let v = c.in_ok-block.ensures.value in
    subst (λ (w : Block). (x : ℕ) → x < coded_in h w → offset_of h w x ≤ most_offset) (sym c.filled-whole.ensures)
    (λ x lt. offset_small h e c.in_ok-block.block x c.requires.earlier (whole_lawful h e c.in_ok-block.block v.0 v.1))

pub read_codes-requires-clause-head : goal.read_codes-requires-clause-head
read_codes-requires-clause-head c = head_channels c.args.head.now c.requires.head

pub read_codes-requires-clause-coded : goal.read_codes-requires-clause-coded
read_codes-requires-clause-coded c =
    let h = c.args.head.now in
    let e = take c.args.b c.args.out.now.block in
    let v = c.in_ok-block.ensures.value in
    subst (λ (w : Block). (x : ℕ) → x < coded_in h w → IsSpan (span_in h w x)) (sym c.filled-whole.ensures)
    (λ x lt. coded_is_span h e c.in_ok-block.block x c.requires.head c.requires.earlier (whole_lawful h e c.in_ok-block.block v.0 v.1) lt)

pub returns-in-Err-clause-cause : goal.returns-in-Err-clause-cause
returns-in-Err-clause-cause c =
    let v = c.in_ok-block.ensures.value in
    one_refused c.args.head.now (take c.args.b c.args.out.now.block) c.args.b c.put_exponents.new.out c.put_pointers.new.out c.in_ok-block.block c.filled-whole.result v.0 c.args.source.now c.read_block.new.source c.in-Err.e
    (record { head = c.requires.head; earlier = c.requires.earlier; filled = c.filled-whole.ensures; exponents = c.put_exponents.ensures.value; allocation = c.put_pointers.ensures.value }) v.1 v.2 c.in-Err.ensures.cause

pub returns-in-Ok-clause-found : goal.returns-in-Ok-clause-found
returns-in-Ok-clause-found c =
    let v = c.in_ok-block.ensures.value in
    one_read c.args.head.now c.args.b c.args.out.now _ c.in_ok-block.block c.filled-whole.result v.0 c.args.source.now c.read_block.new.source c.read_codes.new.source
    (record { head = c.requires.head; earlier = c.requires.earlier; filled = c.filled-whole.ensures; exponents = c.put_exponents.ensures.value; allocation = c.put_pointers.ensures.value }) v.1 v.2 c.in-Ok.ensures.found
    (take_more_set c.args.out.now.block c.args.b c.in_ok-block.block (omega arith)) (length-set c.args.out.now.block c.args.b c.in_ok-block.block)

pub put_pointers-requires-clause-kept : goal.put_pointers-requires-clause-kept
put_pointers-requires-clause-kept c =
    pointers_stay c.args.head.now c.args.b c.args.kept.now c.args.out.now.exps c.put_exponents.new.out c.args.out.now.baps c.requires.exponents.first c.requires.exponents.are_spans c.put_exponents.ensures.rest c.requires.pointers

pub coded-requires : goal.coded-requires
coded-requires c = head_channels c.args.head.now c.requires.head

pub returns-in-Ok-clause-exponents : goal.returns-in-Ok-clause-exponents
returns-in-Ok-clause-exponents c =
    let h = c.args.head.now in
    let e = take c.args.b c.args.out.now.block in
    let x = c.in_ok-block.block in
    let f = c.filled-whole.result in
    let v = c.in_ok-block.ensures.value in
    let are : (i : ℕ) → i < coded_in h f → IsSpan (span_in h f i) =
    subst (λ (w : Block). (i : ℕ) → i < coded_in h w → IsSpan (span_in h w i)) (sym c.filled-whole.ensures)
    (λ i lt. coded_is_span h e x i c.requires.head c.requires.earlier (whole_lawful h e x v.0 v.1) lt) in
    exponents_kept h e _ x f c.args.b c.coded.result c.spans-spans.result c.put_exponents.new.out c.filled-whole.ensures (take_more_set c.args.out.now.block c.args.b x (omega arith)) c.spans-spans.ensures c.coded.ensures.value c.coded.ensures.bound are c.put_exponents.ensures.rows

pub returns-in-Ok-clause-pointers : goal.returns-in-Ok-clause-pointers
returns-in-Ok-clause-pointers c =
    pointers_kept c.args.head.now c.filled-whole.result c.args.b c.coded.result c.spans-spans.result c.put_exponents.new.out c.put_pointers.new.out c.coded.ensures.value c.put_pointers.ensures.rows
