use Rattle.std.proofs.Common.{◌≡◌, ◌+◌, ◌*◌, ◌≤◌, ℕ, refl, ap, sym, subst, ◌∙◌, arith}
use Rattle.std.proofs.lemmas.Result.{err_from_is_err_and}
use Rattle.ac_io.specs.Within.{TakesAtMost}
use Rattle.ac_riff.specs.declared.head.WavHead.{WavHead}
use Rattle.ac_wav.specs.Body.{taken_by, limit_of, IsBehind}
use Rattle.ac_wav.specs.Samples.{sample_count, SamplesRead, IsUnsampled, UnsampledLeaves, FramesTaken}
use Rattle.ac_wav.proofs.Rooms.{align_least}
use Rattle.ac_world.specs.Limit.{limit}
use Rattle.ac_encode.specs.Sound.{sound_of}
use Rattle.ac_encode.proofs.Places.{silent_first, stands_first, stands_own, rows_by, stands_by, leaves_by, no_frames, one_more}
use Rattle.ac_encode.proofs.Faults.{sink_behind}
use Rattle.ac_encode.proofs.Loops.{begun_by, at_first, one_further, six_most, own_rows, rows_fit, all_read, unread, full_broke, few, further, taken_full}
use Rattle.ac_encode.proofs.frames.full_frames.Goals as goal

pub loop-rest-init : goal.loop-rest-init
loop-rest-init g c = record {
  told = λ bytes h. record {
    stands = at_first bytes c.args.head.now c.new-body.result _ c.new-body.ensures.head c.new-body.ensures.stands h;
    some = omega arith;
    before = silent_first (sound_of c.args.head.now bytes) _ _ _ c.requires.first (six_most c.args.head.now c.requires.profile);
    frames = no_frames c.args.encoder.now.options (sound_of c.args.head.now bytes) _;
  };
  head = c.new-body.ensures.head;
  limit_is = c.new-body.ensures.limit;
  stands = c.new-body.ensures.stands;
  room = omega (arith, c.new-body.result.room, c.new-body.ensures.limit);
  next = stands_first _ _ _ c.requires.first (six_most c.args.head.now c.requires.profile);
  never_falls = (omega arith, (omega arith, omega arith));
}

pub returns-in_err-rest-clause-told : goal.returns-in_err-rest-clause-told
returns-in_err-rest-clause-told g c = λ bytes h.
    let i = c.loop-rest.invariant in
    let s = i.told bytes h in
    let head = c.args.head.now in
    let old = c.loop-rest.body in
    let n = c.loop-rest.frames in
    let fault = c.in_err-rest.field-0.0 in
    let left = g.S.Source.left c.samples.new.input in
    let u = subst (λ (m : ℕ). IsUnsampled bytes head (taken_by old) m fault) i.limit_is
    (subst (λ (w : WavHead). IsUnsampled bytes w (taken_by old) (limit_of old) fault) i.head (c.in_err-rest.ensures.cause bytes (1536 * n) s.stands)) in
    let l = subst (λ (m : ℕ). UnsampledLeaves bytes head (taken_by old) m fault left) i.limit_is
    (subst (λ (w : WavHead). UnsampledLeaves bytes w (taken_by old) (limit_of old) fault left) i.head (c.in_err-rest.ensures.told bytes (1536 * n) s.stands)) in
    let t = subst (λ (m : ℕ). FramesTaken bytes head m n left) i.limit_is
    (subst (λ (w : WavHead). FramesTaken bytes w (limit_of old) n left) i.head (c.in_err-rest.ensures.frames bytes n s.stands)) in
    let least : head.taken ≤ taken_by old = omega (arith, i.stands.taken_is, ap (λ (w : WavHead). w.taken) i.head) in
    let p = err_from_is_err_and c.from_residual.result c.from_residual.ensures.1 in
    rw (p.1, p.2) (unread c.depends.ensures c.args.encoder.now.options bytes head (taken_by old) n fault _ _ (begun_by _ bytes head _ c.requires.suits h) least i.room u l t s.frames)

pub returns-in_err-rest-clause-most_read : goal.returns-in_err-rest-clause-most_read
returns-in_err-rest-clause-most_read g c = λ bytes h.
    let i = c.loop-rest.invariant in
    subst (λ (m : ℕ). TakesAtMost bytes (m + 1) (g.S.Source.left c.samples.new.input)) i.limit_is (c.in_err-rest.ensures.most_read bytes (i.told bytes h).stands.at)

pub returns-in_err-rest-clause-never_falls : goal.returns-in_err-rest-clause-never_falls
returns-in_err-rest-clause-never_falls g c =
    let i = c.loop-rest.invariant in
    (omega (arith, i.never_falls.0, c.in_err-rest.ensures.never_falls), i.never_falls.1)

pub returns-then-rest-lt1536-clause-told : goal.returns-then-rest-lt1536-clause-told
returns-then-rest-lt1536-clause-told g c = λ bytes h.
    let i = c.loop-rest.invariant in
    let s = i.told bytes h in
    let head = c.args.head.now in
    let n = c.loop-rest.frames in
    let r = subst (λ (w : WavHead). SamplesRead bytes w (taken_by c.loop-rest.body) (1536 * n) (taken_by c.samples.new.self) c.in_ok-rest.rest c.samples.new.out (g.S.Source.left c.samples.new.input)) i.head
    (c.in_ok-rest.ensures.told bytes (1536 * n) s.stands) in
    let within : taken_by c.samples.new.self ≤ limit = omega (arith, c.in_ok-rest.ensures.within, c.in_ok-rest.ensures.limit, i.limit_is) in
    all_read c.args.encoder.now.options bytes head (taken_by c.loop-rest.body) (taken_by c.samples.new.self) n c.in_ok-rest.rest c.loop-rest.encoder _ _ _ i.next.layout_is i.next.six h.is within s.some s.before s.frames r c.if-rest-lt1536.true

pub returns-then-rest-lt1536-clause-count : goal.returns-then-rest-lt1536-clause-count
returns-then-rest-lt1536-clause-count g c =
    let i = c.loop-rest.invariant in
    let some = align_least c.args.head.now c.requires.profile in
    let fewer = few c.args.head.now c.loop-rest.body c.loop-rest.frames i.head some i.room i.stands in
    (omega (arith, fewer), c.if-rest-lt1536.true)

pub returns-then-rest-lt1536-clause-next : goal.returns-then-rest-lt1536-clause-next
returns-then-rest-lt1536-clause-next g c = c.loop-rest.invariant.next

pub returns-then-rest-lt1536-clause-most_read : goal.returns-then-rest-lt1536-clause-most_read
returns-then-rest-lt1536-clause-most_read g c = λ bytes h.
    let i = c.loop-rest.invariant in
    subst (λ (m : ℕ). TakesAtMost bytes (m + 1) (g.S.Source.left c.samples.new.input)) i.limit_is (c.in_ok-rest.ensures.most_read bytes (i.told bytes h).stands.at)

pub returns-then-rest-lt1536-clause-never_falls : goal.returns-then-rest-lt1536-clause-never_falls
returns-then-rest-lt1536-clause-never_falls g c =
    let i = c.loop-rest.invariant in
    (omega (arith, i.never_falls.0, c.in_ok-rest.ensures.never_falls), i.never_falls.1)

pub frame-requires-clause-stands : goal.frame-requires-clause-stands
frame-requires-clause-stands g c = stands_own _ _ _ _ c.loop-rest.invariant.next

pub frame-requires-clause-rows : goal.frame-requires-clause-rows
frame-requires-clause-rows g c =
    rows_by _ _ _ (sym c.loop-rest.invariant.next.layout_is) (rows_fit c.args.head.now _ c.loop-rest.invariant.next.six c.in_ok-rest.ensures.bound)

pub returns-then-rest-lt1536-clause-rows : goal.returns-then-rest-lt1536-clause-rows
returns-then-rest-lt1536-clause-rows g c = rows_fit c.args.head.now _ c.loop-rest.invariant.next.six c.in_ok-rest.ensures.bound

pub returns-in_err-frame-clause-told : goal.returns-in_err-frame-clause-told
returns-in_err-frame-clause-told g c = λ bytes h.
    let i = c.loop-rest.invariant in
    let s = i.told bytes h in
    let head = c.args.head.now in
    let n = c.loop-rest.frames in
    let full : c.in_ok-rest.rest ≡ 1536 = omega (arith, c.in_ok-rest.ensures.count, c.if-rest-lt1536.false) in
    let next = c.in_ok-rest.ensures.next (1536 * n) i.stands full in
    let r = subst (λ (w : WavHead). SamplesRead bytes w (taken_by c.loop-rest.body) (1536 * n) (taken_by c.samples.new.self) c.in_ok-rest.rest c.samples.new.out (g.S.Source.left c.samples.new.input)) i.head
    (c.in_ok-rest.ensures.told bytes (1536 * n) s.stands) in
    let count = r.count in
    let most : 1536 * (n + 1) ≤ sample_count head bytes = omega (arith, count, full) in
    let here = c.in_err-frame.ensures.told (sound_of head bytes) (sym i.next.layout_is) s.before (own_rows bytes head _ n _ _ _ _ r i.next.six) in
    let leaves = leaves_by _ _ _ _ _ _ _ i.next.options here.0 in
    let rose = sink_behind c.in_err-frame.field-0.0 _ _ _ i.never_falls.1 c.in_err-frame.ensures.rose in
    let p = err_from_is_err_and c.from_residual-in_err-frame.result c.from_residual-in_err-frame.ensures.1 in
    rw (p.1, p.2) (full_broke c.depends.ensures c.args.encoder.now.options bytes head n (taken_by c.samples.new.self) c.in_err-frame.field-0.0 _ _ _ (begun_by _ bytes head _ c.requires.suits h)
    (align_least head c.requires.profile) rose most (taken_full c.loop-rest.body c.samples.new.self head n i.head c.in_ok-rest.ensures.head next) r.at s.frames leaves)

pub returns-in_err-frame-clause-most_read : goal.returns-in_err-frame-clause-most_read
returns-in_err-frame-clause-most_read g c = λ bytes h.
    let i = c.loop-rest.invariant in
    subst (λ (m : ℕ). TakesAtMost bytes (m + 1) (g.S.Source.left c.samples.new.input)) i.limit_is (c.in_ok-rest.ensures.most_read bytes (i.told bytes h).stands.at)

pub returns-in_err-frame-clause-rose : goal.returns-in_err-frame-clause-rose
returns-in_err-frame-clause-rose g c =
    let p = err_from_is_err_and c.from_residual-in_err-frame.result c.from_residual-in_err-frame.ensures.1 in
    rw (p.1, p.2) (sink_behind c.in_err-frame.field-0.0 _ _ _ c.loop-rest.invariant.never_falls.1 c.in_err-frame.ensures.rose)

pub returns-in_err-frame-clause-never_falls : goal.returns-in_err-frame-clause-never_falls
returns-in_err-frame-clause-never_falls g c =
    let i = c.loop-rest.invariant in
    let f = c.in_err-frame.ensures.never_falls in
    (omega (arith, i.never_falls.0, c.in_ok-rest.ensures.never_falls), (omega (arith, i.never_falls.1.0, f.0), omega (arith, i.never_falls.1.1, f.1)))

pub overflow_add-frames : goal.overflow_add-frames
overflow_add-frames g c =
    let i = c.loop-rest.invariant in
    let some = align_least c.args.head.now c.requires.profile in
    let fewer = few c.args.head.now c.loop-rest.body c.loop-rest.frames i.head some i.room i.stands in
    omega (arith, fewer)

pub loop-rest-smaller : goal.loop-rest-smaller
loop-rest-smaller g c =
    let i = c.loop-rest.invariant in
    let full : c.in_ok-rest.rest ≡ 1536 = omega (arith, c.in_ok-rest.ensures.count, c.if-rest-lt1536.false) in
    let next = c.in_ok-rest.ensures.next (1536 * c.loop-rest.frames) i.stands full in
    let more = further c.loop-rest.body c.samples.new.self c.args.head.now c.loop-rest.frames i.head c.in_ok-rest.ensures.head (align_least c.args.head.now c.requires.profile) i.stands next in
    omega (arith, more, c.in_ok-rest.ensures.within, c.in_ok-rest.ensures.limit, i.limit_is)

pub loop-rest-preserved : goal.loop-rest-preserved
loop-rest-preserved g c =
    let i = c.loop-rest.invariant in
    let head = c.args.head.now in
    let n = c.loop-rest.frames in
    let full : c.in_ok-rest.rest ≡ 1536 = omega (arith, c.in_ok-rest.ensures.count, c.if-rest-lt1536.false) in
    let next = c.in_ok-rest.ensures.next (1536 * n) i.stands full in
    let f = c.in_ok-frame.ensures.never_falls in
    record {
      told = λ bytes h.
          let s = i.told bytes h in
          let r = subst (λ (w : WavHead). SamplesRead bytes w (taken_by c.loop-rest.body) (1536 * n) (taken_by c.samples.new.self) c.in_ok-rest.rest c.samples.new.out (g.S.Source.left c.samples.new.input)) i.head
          (c.in_ok-rest.ensures.told bytes (1536 * n) s.stands) in
          let count = r.count in
          let here = c.in_ok-frame.ensures.told (sound_of head bytes) (sym i.next.layout_is) s.before (own_rows bytes head _ n _ _ _ _ r i.next.six) in
          record {
            stands = one_further bytes c.samples.new.self n (taken_by c.samples.new.self) _ next r.at refl;
            some = omega (arith, count, full);
            before = here.1;
            frames = one_more c.args.encoder.now.options (sound_of head bytes) n _ _ _ _ s.frames (leaves_by _ _ _ _ _ _ _ i.next.options here.0);
          };
      head = c.in_ok-rest.ensures.head ∙ i.head;
      limit_is = c.in_ok-rest.ensures.limit ∙ i.limit_is;
      stands = subst (IsBehind c.samples.new.self) (omega arith) next;
      room = omega (arith, c.in_ok-rest.ensures.within, c.in_ok-rest.ensures.limit, i.limit_is);
      next = stands_by _ _ _ _ _ _ i.next.options i.next.layout_is c.in_ok-frame.ensures.next;
      never_falls = (omega (arith, i.never_falls.0, c.in_ok-rest.ensures.never_falls), (omega (arith, i.never_falls.1.0, f.0), omega (arith, i.never_falls.1.1, f.1)));
    }
