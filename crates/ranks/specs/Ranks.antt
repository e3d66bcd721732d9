-- Sets of ranks as numbers. Rank r is bit r - 1; ranks start at 1, so 0 is a member of no set.
-- Any number is a set, however large: only what the code does to a word asks how many ranks there can be.
-- Assumes nothing.
use Rattle.std.specs.Prelude.{ℕ, zero, suc, ◌+◌, ◌-◌, ◌/◌, ◌%◌, ◌^◌, Bool, false, ◌==◌, bit_and, bit_or, bit_xor, count_ones, nat_le, if◌then◌else◌}
use Rattle.std.specs.Int.Count.{count_trailing_zeros}

-- the bits of a word, and so the largest rank of a set that is one (01: "Sets of ranks fit 64 bits")
abbrev pub word_bits : ℕ
word_bits = 64

-- whether a set has no member
abbrev pub is_empty : ℕ → Bool
is_empty set = set == 0

-- 1 where the set has the rank i + 1, else 0
abbrev pub bit : ℕ → ℕ → ℕ
bit set i = set / 2 ^ i % 2

unfoldable pub member : ℕ → ℕ → Bool
member set zero = false
member set (suc i) = (bit set i) == 1

unfoldable pub with : ℕ → ℕ → ℕ
with set zero = set
with set (suc i) = bit_or set (2 ^ i)

unfoldable pub without : ℕ → ℕ → ℕ
without set zero = set
without set (suc i) = bit_xor set (bit_and set (2 ^ i))

-- the least member of a set of ranks up to k, and k + 1 where it has none
unfoldable pub first : ℕ → ℕ → ℕ
first k set = count_trailing_zeros k set + 1

-- the most urgent rank of a set, 0 if it has none
unfoldable pub most_urgent : ℕ → ℕ
most_urgent set = if is_empty set then 0 else first word_bits set

abbrev pub union : ℕ → ℕ → ℕ
union a b = bit_or a b

abbrev pub common : ℕ → ℕ → ℕ
common a b = bit_and a b

abbrev pub minus : ℕ → ℕ → ℕ
minus a b = bit_xor a (bit_and a b)

-- the set without its least member
abbrev pub but_first : ℕ → ℕ
but_first set = bit_and set (set - 1)

abbrev pub subset : ℕ → ℕ → Bool
subset a b = bit_and a b == a

abbrev pub disjoint : ℕ → ℕ → Bool
disjoint a b = bit_and a b == 0

-- how many members a set has
abbrev pub size : ℕ → ℕ
size set = count_ones set

abbrev pub at_most_one : ℕ → Bool
at_most_one set = nat_le (size set) 1

-- the ranks 1, .., k
abbrev pub up_to : ℕ → ℕ
up_to k = 2 ^ k - 1

-- a set less one, as a number: the ranks before its first, and its others; of the empty set all ranks of a word
unfoldable pub less_one : ℕ → ℕ
less_one zero = up_to word_bits
less_one (suc n) = n

-- the ranks before the set's first; of the empty set all ranks of a word
abbrev pub before : ℕ → ℕ
before set = minus (less_one set) set

-- the sets f 1, .., f n together
unfoldable pub unions : ℕ → (ℕ → ℕ) → ℕ
unions zero f = 0
unions (suc n) f = union (unions n f) (f (suc n))
