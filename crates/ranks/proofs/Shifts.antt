-- What the code computes of a word is what `specs/Ranks.antt` says: shifts by a rank, and the difference that wraps.
-- Assumes nothing.
use Rattle.std.proofs.Common.{◌≡◌, ℕ, zero, suc, ◌+◌, ◌-◌, ◌*◌, ◌/◌, ◌%◌, ◌^◌, ◌<◌, ◌≤◌, eqb, ap, ◌∙◌, one-mul, arith, shl_exact}
use lib.Pow.{ones_split, ones_lt, high}
use lib.Bits.{bit_and, bit_or, bit_xor, and_mask}
use Rattle.ranks.specs.Ranks.{member, with, without, up_to, less_one}

-- the bit of a rank, as a shift makes it
single : (i : ℕ) → suc i ≤ 64 → (1 * 2 ^ (suc i - 1)) % 2 ^ 64 ≡ 2 ^ i
single i h =
    let back : suc i - 1 ≡ i = omega arith in
    rw back (shl_exact 1 i 64 (omega arith) (omega arith) ∙ one-mul (2 ^ i))

pub contains_is : (set r : ℕ) → 1 ≤ r → eqb (bit_and (set / 2 ^ (r - 1)) 1) 1 ≡ member set r
unfolding member
contains_is set zero h = absurd (omega arith)
contains_is set (suc i) h =
    let back : suc i - 1 ≡ i = omega arith in
    rw back (ap (λ (x : ℕ). eqb x 1) (and_mask (set / 2 ^ i) 1))

pub with_is : (set r : ℕ) → 1 ≤ r → r ≤ 64 → bit_or set ((1 * 2 ^ (r - 1)) % 2 ^ 64) ≡ with set r
unfolding with
with_is set zero h l = absurd (omega arith)
with_is set (suc i) h l = ap (bit_or set) (single i l)

pub without_is : (set r : ℕ) → 1 ≤ r → r ≤ 64 → bit_xor set (bit_and set ((1 * 2 ^ (r - 1)) % 2 ^ 64)) ≡ without set r
unfolding without
without_is set zero h l = absurd (omega arith)
without_is set (suc i) h l = ap (λ (x : ℕ). bit_xor set (bit_and set x)) (single i l)

-- as many ones as the count, from a word of ones
pub up_to_is : (k : ℕ) → k ≤ 64 → (2 ^ 64 - 1) / 2 ^ (64 - k) ≡ up_to k
up_to_is k l =
    let whole : 64 ≡ k + (64 - k) = omega arith in
    ap (λ (n : ℕ). (2 ^ n - 1) / 2 ^ (64 - k)) whole
    ∙ ap (λ (n : ℕ). n / 2 ^ (64 - k)) (ones_split k (64 - k)) ∙ high (2 ^ k - 1) (64 - k) (ones_lt (64 - k))

-- below 1 the difference wraps, to a word of ones
pub less_one_is : (set : ℕ) → set < 2 ^ 64 → (set + (2 ^ 64 - 1)) % 2 ^ 64 ≡ less_one set
unfolding less_one
less_one_is zero l = omega arith
less_one_is (suc n) l = omega arith
