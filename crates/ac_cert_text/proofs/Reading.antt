-- What the readers of words and numbers cite.
use Rattle.std.proofs.Common.{◌≡◌, ℕ, Bool, true, false, List, length, take, drop, Ok, Err, refl, ap, sym, ◌∙◌}
use Rattle.std.specs.Str.{bytes_eq}
use Rattle.ac_cert_text.specs.declared.fault.Fault.TheVariants.{Bad}
use Rattle.ac_cert_text.specs.Codec.{Codec, ◌>>=◌, word_read, judged, tested}
use Rattle.ac_cert_text.proofs.Sound.{ok_of}

pub word-ok : (w l rest : List ℕ) → bytes_eq (take (length w) l) w ≡ true → rest ≡ drop (length w) l → word_read w l ≡ Ok (tt, rest)
word-ok w l rest a b = rw (a, b) refl

pub word-not : (w l : List ℕ) → bytes_eq (take (length w) l) w ≡ false → word_read w l ≡ Err (Bad, l)
word-not w l a = rw a refl

-- ---- pieces that are tested
pub tested-ok : {A : Type 0} (test : A → Bool) (c : Codec A) (l rest : List ℕ) (a b : A) → c.read l ≡ Ok (a, rest) → test a ≡ true → b ≡ a
    → (tested test c).read l ≡ Ok (b, rest)
unfolding tested
tested-ok {A} test c l rest a b h t e =
    let one : (c.read l >>= λ x. judged (test x.0) l x) ≡ Ok (a, rest) = rw (h, t) refl in
    one ∙ ap (λ (x : A). ok_of (x, rest)) (sym e)

pub tested-not : {A : Type 0} (test : A → Bool) (c : Codec A) (l rest : List ℕ) (a : A) → c.read l ≡ Ok (a, rest) → test a ≡ false
    → (tested test c).read l ≡ Err (Bad, l)
unfolding tested
tested-not test c l rest a h t = rw (h, t) refl
