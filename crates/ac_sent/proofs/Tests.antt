-- Tests of single bits, and of numbers below 0.
use Rattle.std.proofs.Common.{◌≡◌, ℕ, ◌&&◌, Bool, true, false, Some, None, nat_lt, refl, arith}
use Rattle.std.specs.Prelude.{is_some}
use Rattle.std.proofs.lemmas.Bool.{le-ltb}
use Rattle.ac_codec.specs.declared.refused.Refused.{Refused}
use Rattle.ac_codec.specs.Codec.{zero_where, one_where}
use Rattle.ac_rows.specs.Filled.{holds}
use Rattle.ac_sent.specs.Fields.{when}

pub zero_true : (may : Bool) (r : Refused) → zero_where may r true ≡ None
zero_true true r = refl
zero_true false r = refl

pub zero_may : (may : Bool) (r : Refused) (b : Bool) → may ≡ true → zero_where may r b ≡ None
zero_may may r b e = rw e refl

pub one_false : (may : Bool) (r : Refused) → one_where may r false ≡ None
one_false true r = refl
one_false false r = refl

pub one_may : (may : Bool) (r : Refused) (b : Bool) → may ≡ true → one_where may r b ≡ None
one_may may r b e = rw e refl

pub none_below : (k : ℕ) → nat_lt k 0 ≡ false
none_below k = le-ltb k 0 (omega arith)

pub and_not : (a b : Bool) → b ≡ false → (a && b) ≡ false
and_not true b e = e
and_not false b e = refl

pub and_both : (a b : Bool) → a ≡ true → b ≡ true → (a && b) ≡ true
and_both true b e f = f
and_both false b e f = absurd cc

pub and_first : (a b : Bool) → (a && b) ≡ true → a ≡ true
and_first true b e = refl
and_first false b e = absurd cc

pub and_second : (a b : Bool) → (a && b) ≡ true → b ≡ true
and_second true b e = e
and_second false b e = absurd cc

pub and_true : (a : Bool) → (a && true) ≡ a
and_true true = refl
and_true false = refl

pub some_when : {A : Type 0} (there : Bool) (x : A) → is_some (when there x) ≡ there
some_when true x = refl
some_when false x = refl

pub holds_when : (there b : Bool) → holds (when there b) ≡ (there && b)
holds_when true b = refl
holds_when false b = refl

pub when_not : {A : Type 0} (there : Bool) (x : A) → there ≡ false → when there x ≡ None
when_not there x e = rw e refl

pub when_there : {A : Type 0} (there : Bool) (x : A) → there ≡ true → when there x ≡ Some x
when_there there x e = rw e refl
