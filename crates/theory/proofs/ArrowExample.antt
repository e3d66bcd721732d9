-- Which modes conflict, pair by pair; and an arrow, drawn. Job 3 reads object 1 and then writes it, job 1 waits to read it, and job 3's finish releases
-- its lock and wakes job 1, which finishes too. The arrow goes from job 3's run to job 1's. It rests on "within one event the release comes before
-- the woken grant"; and the write lock's grant, which replaces the read lock, releases nothing.
use Rattle.std.specs.Prelude.{◌≡◌, refl, ◌≢◌, ℕ, zero, suc, ◌≤◌, ◌<◌}
use Rattle.std.proofs.Common.{inl, inr, arith}
use Rattle.theory.specs.Words.{Label, Ends, Run, by_that_answer, after_waits}
use Rattle.theory.specs.WriteLocks.{GrantIn}
use Rattle.theory.specs.Arrows.{Conflict, either_writes, one_of_three, Released, Arrow}
use Rattle.theory.proofs.Keeps.{ends_kind}
use Rattle.theory.proofs.Links.{run_before}
use Rattle.theory.specs.Build.{labelled}
use Rattle.theory.proofs.ConflictLaws.{conflict_modes}

-- ---- the pairs

pub conflicting : Conflict 1 1 2 × Conflict 1 2 2 × Conflict 2 1 3 × Conflict 2 2 2 × Conflict 2 3 3
conflicting = (
  either_writes refl (inl (inl (refl, refl))),
  either_writes refl (inr (inl (refl, refl))),
  one_of_three refl (inl (inl (refl, refl))),
  one_of_three refl (inr (inl (inl (refl, refl)))),
  one_of_three refl (inr (inr (inl (refl, refl)))),
)

pub not_conflicting : (¬ Conflict 1 1 1) × (¬ Conflict 2 1 1) × (¬ Conflict 2 1 2) × (¬ Conflict 2 2 3)
not_conflicting = (
  λ c. omega (arith, (conflict_modes c).2),
  λ c. omega (arith, (conflict_modes c).2),
  λ c. omega (arith, (conflict_modes c).2),
  write_and_certify,
)
  where
    write_and_certify : ¬ Conflict 2 2 3
    write_and_certify (either_writes e c) = omega arith
    write_and_certify (one_of_three e (inl (inl x))) = omega arith
    write_and_certify (one_of_three e (inl (inr x))) = omega arith
    write_and_certify (one_of_three e (inr (inl (inl x)))) = omega arith
    write_and_certify (one_of_three e (inr (inl (inr x)))) = omega arith
    write_and_certify (one_of_three e (inr (inr (inl x)))) = omega arith
    write_and_certify (one_of_three e (inr (inr (inr x)))) = omega arith

-- ---- the events

abbrev pub drawn : ℕ → Label
drawn zero = labelled 1 3 0 0 0
drawn (suc zero) = labelled 2 3 1 1 0
drawn (suc (suc zero)) = labelled 2 3 1 2 0
drawn (suc (suc (suc zero))) = labelled 1 1 0 0 0
drawn (suc (suc (suc (suc zero)))) = labelled 3 1 1 1 0
drawn (suc (suc (suc (suc (suc zero))))) = labelled 5 3 0 0 1
drawn (suc (suc (suc (suc (suc (suc zero)))))) = labelled 5 1 0 0 0
drawn (suc (suc (suc (suc (suc (suc (suc i))))))) = labelled 0 0 0 0 0

-- before job 3's finish, event 5, nothing is unlocked, no run ends and nobody is woken; behind event 2 nothing is granted
quiet : (i : ℕ) → i < 5 → ((drawn i).what ≤ 3) × ((drawn i).woken ≡ 0) × (2 < i → (drawn i).what ≢ 2)
quiet zero l = (omega arith, refl, λ a. absurd (omega arith))
quiet (suc zero) l = (omega arith, refl, λ a. absurd (omega arith))
quiet (suc (suc zero)) l = (omega arith, refl, λ a. absurd (omega arith))
quiet (suc (suc (suc zero))) l = (omega arith, refl, λ a e. omega arith)
quiet (suc (suc (suc (suc zero)))) l = (omega arith, refl, λ a e. omega arith)
quiet (suc (suc (suc (suc (suc i))))) l = absurd (omega arith)

-- ---- the runs

run3 : (t : ℕ) → 0 < t → t ≤ 5 → Run drawn 3 0 t
run3 t a b = record {
  begun = a;
  starts = record { start_done = refl; of_job = refl };
  not_ended = λ i c d e. omega (arith, ends_kind e, (quiet i (omega arith)).0);
}

run1 : Run drawn 1 3 6
run1 = record { begun = omega arith; starts = record { start_done = refl; of_job = refl }; not_ended = go }
  where
    go : (i : ℕ) → 3 < i → i < 6 → ¬ Ends (drawn i) 1
    go zero c d e = omega arith
    go (suc zero) c d e = omega arith
    go (suc (suc zero)) c d e = omega arith
    go (suc (suc (suc zero))) c d e = omega arith
    go (suc (suc (suc (suc zero)))) c d e = omega (arith, ends_kind e)
    go (suc (suc (suc (suc (suc zero))))) c d e = omega arith
    go (suc (suc (suc (suc (suc (suc i)))))) c d e = omega arith

-- ---- job 3's locks

-- event 1 grants the read lock, event 2 the write lock
granted3 : (i m : ℕ) → 0 < i → i < 5 → ((drawn i).what ≡ 2) × ((drawn i).job ≡ 3) × ((drawn i).object ≡ 1) × ((drawn i).mode ≡ m)
    → GrantIn drawn m 3 0 1 i
granted3 i m a b x = record {
  grant = record {
    asked = i;
    request = record { run = run3 i a (omega arith); granted_or_waits = inl (omega (arith, x)) };
    granted = by_that_answer refl (omega (arith, x));
  };
  in_mode = x.3;
}

-- job 3 holds the write lock until its finish releases it
released : Released drawn 2 3 0 1 5
released = record {
  held = record {
    holds = record {
      first = 1;
      before = omega arith;
      grant = (granted3 1 1 (omega arith) (omega arith) (refl, refl, refl, refl)).grant;
      none_earlier = λ i a b g. omega arith;
      not_unlocked = λ i a b u. omega (arith, (quiet i b).0, u.unlock_done);
      run = run3 5 (omega arith) (omega arith);
    };
    last = 2;
    before = omega arith;
    grant = granted3 2 2 (omega arith) (omega arith) (refl, refl, refl, refl);
    none_later = λ i a b g. elim g.granted [
      | by_that_answer e x ↦ (quiet i b).2 a x.granted
      | after_waits p w ↦ omega (arith, w.given_as_woken, (quiet i b).1)
    ];
  };
  unlock_or_end = inr (record { finish_or_abandonment_done = inl refl; of_job = refl });
}

-- "A lock replaced by a stronger one of the same run isn't released"
pub replaced_not_released : (m : ℕ) → ¬ Released drawn m 3 0 1 2
replaced_not_released m r = elim r.unlock_or_end [ inl u ↦ omega arith | inr e ↦ omega (arith, ends_kind e) ]

-- ---- job 1's lock, and the arrow

woken : GrantIn drawn 1 1 3 1 5
woken = record {
  grant = record {
    asked = 4;
    request = record { run = run_before drawn 1 3 4 6 run1 (omega arith) (omega arith); granted_or_waits = inr (omega arith) };
    granted = after_waits (record {
      after_start = omega arith;
      before = omega arith;
      waits = omega arith;
      run = run_before drawn 1 3 5 6 run1 (omega arith) (omega arith);
      not_woken = λ i a b w. omega arith;
    }) (omega arith);
  };
  in_mode = refl;
}

pub arrow_drawn : Arrow drawn 1 3 0 1 3
arrow_drawn = record {
  another = λ e. omega arith;
  from_finished = record { finish = 5; finishes = record { run = run3 5 (omega arith) (omega arith); finish_done = refl; of_job = refl } };
  to_finished = record { finish = 6; finishes = record { run = run1; finish_done = refl; of_job = refl } };
  object = 1;
  there = record {
    released_mode = 2;
    granted_mode = 1;
    release = 5;
    grant = 5;
    released = released;
    granted = woken;
    before = omega arith;
    conflict = either_writes refl (inl (inr (refl, refl)));
  };
}
