use Rattle.std.proofs.Common.{refl, sym}
use Rattle.std.proofs.lemmas.Result.{err_from_is_err_and}
use Rattle.ac_wav.proofs.Rooms.{align_least}
use Rattle.ac_encode.specs.Sound.{sound_of, frames_of}
use Rattle.ac_encode.proofs.Faults.{sink_behind}
use Rattle.ac_encode.proofs.Places.{all_by, front_by, stands_own, rows_by}
use Rattle.ac_encode.proofs.Loops.{begun_by, rest_broke, encodes}
use Rattle.ac_encode.proofs.frames.frames.Goals as goal

pub returns-in_err-last_frames-clause-told : goal.returns-in_err-last_frames-clause-told
returns-in_err-last_frames-clause-told g c = λ bytes h.
    let head = c.args.head.now in
    let all = c.in_ok-read.ensures.told bytes h in
    let here = front_by c.args.encoder.now.options _ (sound_of head bytes) c.in_ok-read.read.frames (frames_of (sound_of head bytes)) c.in_err-last_frames.field-0.0 _ _ _ c.in_ok-read.ensures.next.options all.frames (c.in_err-last_frames.ensures.told (sound_of head bytes) _ all.ends) in
    let rose = sink_behind c.in_err-last_frames.field-0.0 _ _ _ c.in_ok-read.ensures.never_falls.1 c.in_err-last_frames.ensures.rose in
    let p = err_from_is_err_and c.from_residual-in_err-last_frames.result c.from_residual-in_err-last_frames.ensures.1 in
    rw (p.1, p.2) (rest_broke c.depends.ensures c.args.encoder.now.options bytes head c.in_ok-read.read _ _ c.in_err-last_frames.field-0.0 _ _ _ (begun_by _ bytes head _ c.requires.suits h) (align_least head c.requires.profile) rose c.in_ok-read.ensures.count.1 refl all here)

pub returns-clause-told : goal.returns-clause-told
returns-clause-told g c = λ bytes h.
    let head = c.args.head.now in
    let all = c.in_ok-read.ensures.told bytes h in
    let here = all_by c.args.encoder.now.options _ (sound_of head bytes) c.in_ok-read.read.frames (frames_of (sound_of head bytes)) _ _ _ c.in_ok-read.ensures.next.options all.frames (c.in_ok-last_frames.ensures.told (sound_of head bytes) _ all.ends) in
    encodes c.args.encoder.now.options bytes head c.in_ok-read.read _ _ _ _ _ c.requires.suits refl all here

pub last_frames-requires-clause-stands : goal.last_frames-requires-clause-stands
last_frames-requires-clause-stands g c = stands_own _ _ _ _ c.in_ok-read.ensures.next

pub last_frames-requires-clause-rows : goal.last_frames-requires-clause-rows
last_frames-requires-clause-rows g c = rows_by _ _ _ (sym c.in_ok-read.ensures.next.layout_is) c.in_ok-read.ensures.rows
