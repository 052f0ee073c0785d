-- Bytes that are written one piece behind the other.
use Rattle.std.proofs.Common.{◌≡◌, ◌≤◌, length, ℕ, ◌+◌, List, [], ◌++◌, take, drop, refl, sym, ap, ◌∙◌, append_assoc, add-one, slice_index, slice_index_or, ℤ, pos}
use Rattle.std.proofs.lemmas.List.{drop-drop}
use Rattle.std.proofs.lemmas.Slice.{drop-put_mid}
use borrow.Rule.Slice.PartMut.{put_mid}
use Rattle.ac_wav.specs.Written.{sample_bytes, places_bytes, samples_bytes}

pub places_none : (rows : List (List ℤ)) (coded : List ℕ) (t : ℕ) → places_bytes rows coded t 0 ≡ []
unfolding places_bytes
places_none rows coded t = refl

pub places_more : (rows : List (List ℤ)) (coded : List ℕ) (t p : ℕ) → places_bytes rows coded t (p + 1) ≡ places_bytes rows coded t p ++ sample_bytes (slice_index_or (slice_index_or rows (slice_index coded p) []) t (pos 0))
unfolding places_bytes
places_more rows coded t p = rw add-one refl

pub samples_none : (rows : List (List ℤ)) (coded : List ℕ) (channels : ℕ) → samples_bytes rows coded channels 0 ≡ []
unfolding samples_bytes
samples_none rows coded channels = refl

pub samples_more : (rows : List (List ℤ)) (coded : List ℕ) (channels t : ℕ) → samples_bytes rows coded channels (t + 1) ≡ samples_bytes rows coded channels t ++ places_bytes rows coded t channels
unfolding samples_bytes
samples_more rows coded channels t = rw add-one refl

pub put_more : (start out new front piece : List ℕ) (at k m : ℕ) → take (at + k) new ≡ take at out ++ piece → take at out ≡ start ++ front → m ≡ at + k → take m new ≡ start ++ (front ++ piece)
put_more start out new front piece at k m a b e = ap (λ n. take n new) e ∙ (a ∙ (ap (λ l. l ++ piece) b ∙ append_assoc start front piece))

pub rest_more : (first out new : List ℕ) (at k m : ℕ) → drop (at + k) new ≡ drop (at + k) out → drop at out ≡ drop at first → m ≡ at + k → drop m new ≡ drop m first
rest_more first out new at k m a b e = ap (λ n. drop n new) e ∙ (a ∙ (sym (drop-drop k at out) ∙ (ap (drop k) b ∙ (drop-drop k at first ∙ sym (ap (λ n. drop n first) e)))))

-- what lies behind a part that was written
pub rest_stays : (a k : ℕ) (xs ys : List ℕ) (n : ℕ) → a + k ≤ n → a ≤ length xs → length ys ≡ k → drop n (put_mid a k xs ys) ≡ drop n xs
rest_stays a k xs ys n h i e = drop-put_mid a k xs ys n h i e
