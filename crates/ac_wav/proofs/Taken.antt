-- The whole frames in the data bytes that were taken.
use Rattle.std.proofs.Common.{◌≡◌, ℕ, ◌+◌, ◌-◌, ◌*◌, ◌/◌, ◌≤◌, ◌<◌, min, List, length, Option, Some, None, ap, sym, ◌∙◌, arith}
use Rattle.std.proofs.lemmas.Nat.{div_below}
use Rattle.std.proofs.Math.Nat.{mul-add-div_right, div-eq_of_lt}
use Rattle.ac_riff.specs.declared.fault.WavKind.TheVariants.{Short, NotRiff, NoFmt, NoData, BadFmt, Unsupported}
use Rattle.ac_riff.specs.declared.fault.WavFault.{WavFault}
use Rattle.ac_riff.specs.declared.fault.WavFault.TheVariants.{Bad, ReadFault, TooLong}
use Rattle.ac_riff.specs.declared.head.WavHead.{WavHead}
use Rattle.ac_io.specs.Within.{IsAt, StandsIn}
use Rattle.ac_wav.specs.Samples.{align_of, frame_bytes, samples_taken, FramesTaken, IsUnsampled, UnsampledLeaves}
use Rattle.ac_wav.proofs.Whole.{part_most}

-- n frames of samples of `a` bytes, and a rest of less than a frame
pub frames_in : (n a rest : ℕ) → 0 < a → rest < 1536 * a → (1536 * n * a + rest) / a / 1536 ≡ n
frames_in n a rest h below =
    let q : (1536 * n * a + rest) / a ≡ 1536 * n + rest / a = mul-add-div_right h (1536 * n) rest in
    let low : rest / a < 1536 = div_below rest a 1536 h below in
    let e : (1536 * n * a + rest) / a ≡ n * 1536 + rest / a = omega (arith, q) in
    let none : rest / a / 1536 ≡ 0 = div-eq_of_lt low in
    ap (λ x. x / 1536) e ∙ (mul-add-div_right (omega arith) n (rest / a) ∙ omega (arith, none))

-- a place behind n whole frames, and less than one frame behind them
pub frames_at : (head : WavHead) (before limit taken n : ℕ) → 0 < align_of head → before ≡ head.taken + 1536 * n * align_of head
    → before ≤ min taken limit → min taken limit < before + frame_bytes head before → n ≡ samples_taken head limit taken / 1536
frames_at head before limit taken n h e least below =
    let a = align_of head in
    let most : frame_bytes head before ≤ 1536 * a = part_most head.size (1536 * a) (before - head.taken) in
    let rest : ℕ = min taken limit - before in
    let same : min taken limit - head.taken ≡ 1536 * n * a + rest = omega (arith, e, least) in
    sym (ap (λ x. x / a / 1536) same ∙ frames_in n a rest h (omega (arith, most, below, least)))

stands_frames : (bytes : List ℕ) (head : WavHead) (before limit n : ℕ) (left : Option (List ℕ)) → 0 < align_of head → before ≡ head.taken + 1536 * n * align_of head
    → StandsIn bytes before (min (before + frame_bytes head before) (limit + 1)) left → FramesTaken bytes head limit n left
stands_frames bytes head before limit n None h e s = tt
stands_frames bytes head before limit n (Some rest) h e s =
    (s.0, s.3, frames_at head before limit s.0 n h e (omega (arith, s.1, s.2)) (omega (arith, s.2)))

at_frames : (bytes : List ℕ) (head : WavHead) (limit taken n : ℕ) (left : Option (List ℕ)) → IsAt bytes taken left → n ≡ samples_taken head limit taken / 1536 → FramesTaken bytes head limit n left
at_frames bytes head limit taken n None a e = tt
at_frames bytes head limit taken n (Some rest) a e = (taken, a, e)

-- whatever refuses the next samples, the data bytes taken hold the whole frames that were read, and no more
pub frames_taken : (bytes : List ℕ) (head : WavHead) (before limit n : ℕ) (fault : WavFault) (left : Option (List ℕ)) → 0 < align_of head
    → before ≡ head.taken + 1536 * n * align_of head → before ≤ limit → before ≤ length bytes
    → IsUnsampled bytes head before limit fault → UnsampledLeaves bytes head before limit fault left → FramesTaken bytes head limit n left
frames_taken bytes head before limit n (Bad Short place) left h e within there u s =
    at_frames bytes head limit (length bytes) n left s (frames_at head before limit (length bytes) n h e (omega (arith, within, there)) (omega (arith, u.2)))
frames_taken bytes head before limit n (Bad NotRiff place) left h e within there u s = absurd u
frames_taken bytes head before limit n (Bad NoFmt place) left h e within there u s = absurd u
frames_taken bytes head before limit n (Bad NoData place) left h e within there u s = absurd u
frames_taken bytes head before limit n (Bad (BadFmt field) place) left h e within there u s = absurd u
frames_taken bytes head before limit n (Bad (Unsupported field value) place) left h e within there u s = absurd u
frames_taken bytes head before limit n ReadFault left h e within there u s = stands_frames bytes head before limit n left h e s
frames_taken bytes head before limit n TooLong left h e within there u s =
    at_frames bytes head limit (limit + 1) n left s (frames_at head before limit (limit + 1) n h e (omega (arith, within)) (omega (arith, u.1)))
