-- An array with one element changed, at the index where it stands.
-- Assumes nothing.
use mathlib.Core.Path.{◌≡◌, sym, ap, ◌∙◌}
use mathlib.Core.List.{List}
use Prim.Native.Nat.{ℕ, ◌-◌, ◌≤◌}
use lib.ListN.{get_or, set}
use Rattle.basics.specs.Arrays.{at, put, at_index, put_index}

pub changed : (f : ℕ → ℕ) (xs : List ℕ) (o v : ℕ) → 1 ≤ o → v ≡ f (get_or xs (o - 1) 0) → set xs (o - 1) v ≡ put xs o (f (at xs o))
changed f xs o v h e =
    ap (λ (w : ℕ). set xs (o - 1) w) (e ∙ ap f (sym (at_index xs o h))) ∙ sym (put_index xs o (f (at xs o)) h)
