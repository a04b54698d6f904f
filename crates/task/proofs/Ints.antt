-- Sizes of whole numbers.
use Rattle.std.proofs.Common.{◌≡◌, ℕ, ◌+◌, ◌*◌, ◌^◌, ◌<◌, ◌≤◌, ℤ, pos, negsuc, ◌+ℤ◌, ◌*ℤ◌, nat_abs, sym, ap, ◌∙◌, subst, ap₂, arith, w32, w64, SFits, to_z, of_z}
use Rattle.std.proofs.lemmas.Nat.{mul-le}
use Rattle.std.proofs.lemmas.Int.{ints, to_z-of_z, unsigned_abs-mul, fits_signed_from_abs}

pub nat_abs_add : (a b : ℤ) → nat_abs (a +ℤ b) ≤ nat_abs a + nat_abs b
nat_abs_add a b = omega (arith, ints)

pub product_size : (a b : ℤ) (m n : ℕ) → nat_abs a ≤ m → nat_abs b ≤ n → nat_abs (a *ℤ b) ≤ m * n
product_size a b m n h k = subst (λ x. x ≤ m * n) (sym (unsigned_abs-mul a b)) (mul-le (nat_abs a) (nat_abs b) m n h k)

pub size_fits64 : (z : ℤ) → nat_abs z < 2 ^ 63 → SFits w64 z
size_fits64 = fits_signed_from_abs w64

pub size_fits32 : (z : ℤ) → nat_abs z < 2 ^ 31 → SFits w32 z
size_fits32 = fits_signed_from_abs w32

pub fits32_size : (z : ℤ) → SFits w32 z → nat_abs z ≤ 2 ^ 31
fits32_size (pos n) f = let h = f.sfits in omega arith
fits32_size (negsuc n) f = let h = f.sfits in omega arith

pub fits32_64 : (z : ℤ) → SFits w32 z → SFits w64 z
fits32_64 (pos n) f = let h = f.sfits in record { sfits = omega arith }
fits32_64 (negsuc n) f = let h = f.sfits in record { sfits = omega arith }

-- a product of two numbers of 32 bits, widened, as the code's bits have it
pub widened_product : (a v fa fv : ℤ) → SFits w32 a → SFits w32 v → fa ≡ to_z w32 (of_z w32 a) → fv ≡ to_z w32 (of_z w32 v) → to_z w64 (of_z w64 fa) *ℤ to_z w64 (of_z w64 fv) ≡ a *ℤ v
widened_product a v fa fv f g ea ev =
    let ia : to_z w64 (of_z w64 fa) ≡ a = ap (λ z. to_z w64 (of_z w64 z)) (ea ∙ to_z-of_z w32 a f) ∙ to_z-of_z w64 a (fits32_64 a f) in
    let iv : to_z w64 (of_z w64 fv) ≡ v = ap (λ z. to_z w64 (of_z w64 z)) (ev ∙ to_z-of_z w32 v g) ∙ to_z-of_z w64 v (fits32_64 v g) in
    ap₂ ◌*ℤ◌ ia iv
