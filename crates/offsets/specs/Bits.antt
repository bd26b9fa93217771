-- Numbers and the bits that spell them in two's complement.
use Rattle.std.specs.Prelude.{ℕ, suc, ◌-◌, ◌^◌, ◌<◌, ◌≤◌, ◌≡◌, refl, true, false, T, ℤ, pos, negsuc, ◌-ℤ◌, nat_abs}
use Rattle.std.proofs.Common.{arith, leb-false, Fits, SFits, to_z, of_z}
use Rattle.std.specs.Int.Signed.{non_neg, le_z}
use Rattle.std.specs.Int.{w64}
use mir.ValLaws.{to_z-of_z, to_z_pos, to_z-neg}
use Rattle.integers.specs.Linear.{up, dn, linear, value, ‹◌›, ◌⊖◌}

minus_one : (m : ℕ) → negsuc 0 -ℤ pos m ≡ negsuc m
unfolding up dn
minus_one m = omega (linear, value (‹ negsuc 0 › ⊖ ‹ pos m ›))

less_minus_one : (m : ℕ) → negsuc 0 -ℤ negsuc m ≡ pos m
unfolding up dn
less_minus_one m = omega (linear, value (‹ negsuc 0 › ⊖ ‹ negsuc m ›))

-- bits with the highest set
pub signed_high : (n : ℕ) → 2 ^ 63 ≤ n → n < 2 ^ 64 → negsuc 0 -ℤ to_z w64 (2 ^ 64 - 1 - n) ≡ negsuc (2 ^ 64 - 1 - n)
signed_high n h l = rw (to_z_pos w64 (2 ^ 64 - 1 - n) (omega arith)) (minus_one (2 ^ 64 - 1 - n))

pub signed_high_bits : (n : ℕ) → 2 ^ 63 ≤ n → n < 2 ^ 64 → to_z w64 n ≡ negsuc (2 ^ 64 - 1 - n)
signed_high_bits n h l =
    let s : n ≡ 2 ^ 64 - suc (2 ^ 64 - 1 - n) = omega arith in
    let k = to_z-neg w64 (2 ^ 64 - 1 - n) (omega arith) in
    rw (← s) at k

-- a number that is not negative is its own bits
pub record Upward (z : ℤ) : Type 0 where
  pub upward : T (non_neg (to_z w64 (of_z w64 z)))
  pub fits : Fits w64 (nat_abs (to_z w64 (of_z w64 z)))
  pub is : nat_abs (to_z w64 (of_z w64 z)) ≡ of_z w64 z

pub not_negative : (z : ℤ) → SFits w64 z → le_z (pos 0) (to_z w64 (of_z w64 z)) ≡ true → Upward z
not_negative (pos n) f e =
    let s = to_z-of_z w64 (pos n) f in
    record { upward = rw s tt; fits = rw s (record { fits = omega (arith, f.sfits) }); is = rw s refl }
not_negative (negsuc n) f e = let k = rw (to_z-of_z w64 (negsuc n) f) at e in let x : ◌≡◌ {A = ℕ} 0 1 = cc in absurd (omega arith)

-- a negative one is as far below −1 as its bits are below the highest
pub record Downward (z : ℤ) : Type 0 where
  pub less : SFits w64 (negsuc 0 -ℤ to_z w64 (of_z w64 z))
  pub upward : T (non_neg (to_z w64 (of_z w64 (negsuc 0 -ℤ to_z w64 (of_z w64 z)))))
  pub fits : Fits w64 (nat_abs (to_z w64 (of_z w64 (negsuc 0 -ℤ to_z w64 (of_z w64 z)))))
  pub low : nat_abs (to_z w64 (of_z w64 (negsuc 0 -ℤ to_z w64 (of_z w64 z)))) < 2 ^ 63
  pub is : 2 ^ 64 - 1 - nat_abs (to_z w64 (of_z w64 (negsuc 0 -ℤ to_z w64 (of_z w64 z)))) ≡ of_z w64 z

pub negative : (z : ℤ) → SFits w64 z → le_z (pos 0) (to_z w64 (of_z w64 z)) ≡ false → Downward z
negative (pos n) f e = absurd (omega (arith, leb-false 0 n (rw (to_z-of_z w64 (pos n) f) at e)))
negative (negsuc n) f e =
    let s = to_z-of_z w64 (negsuc n) f in
    let b : n < 2 ^ 63 = f.sfits in
    let g : SFits w64 (pos n) = record { sfits = b } in
    let m : negsuc 0 -ℤ to_z w64 (of_z w64 (negsuc n)) ≡ pos n = rw s (less_minus_one n) in
    let p = to_z-of_z w64 (pos n) g in
    record {
      less = rw m g;
      upward = rw (m, p) tt;
      fits = rw (m, p) (record { fits = omega arith });
      low = rw (m, p) (omega arith);
      is = rw (m, p) (omega arith);
    }
