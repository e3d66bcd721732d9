-- The first laws of the invariant: every fresh state has it, and a release and a grant keep the weights sound.
use Rattle.std.specs.Prelude.{◌≡◌, ◌⊎◌, ℕ, ◌<◌}
use Rattle.std.proofs.Common.{inl, inr, arith}
use Rattle.theory.specs.Machine.{View, Took, FreshView, Sound, Invariant}

pub fresh_invariant : {N : ℕ} {s : View} → FreshView N s → Invariant N s
fresh_invariant {N} {s} F =
    record {
      sound = record {
        rank = λ r o h. omega (arith, F.no_lock r o);
        cap = λ r o h. omega (arith, F.no_lock r o);
        order = λ a b p o l h. omega (arith, F.no_lock a p);
      };
      blocked = λ j a. absurd (a (F.no_request j));
      waits = λ j a. absurd (a (F.no_request j));
      holder = λ r o h. absurd (omega (arith, F.no_lock r o));
    }

-- a release keeps the weights sound
pub release_sound : {N : ℕ} {u v : ℕ → ℕ → ℕ} → Sound N u
    → ((r p : ℕ) → (v r p ≡ u r p) ⊎ (v r p ≡ N)) → Sound N v
release_sound {N} {u} {v} S left =
    record {
      rank = λ r o h. elim (left r o) [ inl e ↦ S.rank r o (omega arith) | inr e ↦ omega arith ];
      cap = λ r o h. elim (left r o) [ inl e ↦ omega (arith, S.cap r o (omega arith)) | inr e ↦ omega arith ];
      order = λ a b p o l h. elim (left a p) [
        | inl e ↦ elim (left b o) [
          | inl f ↦ omega (arith, S.order a b p o l (omega arith))
          | inr f ↦ omega (arith, S.rank a p (omega arith))
        ]
        | inr e ↦ omega arith
      ];
    }

-- a grant keeps them sound: who passes is more urgent than every other holder
pub took_sound : {N : ℕ} {u v : ℕ → ℕ → ℕ} {x q : ℕ} → Sound N u → Took u v x q → x < N → Sound N v
took_sound {N} {u} {v} {x} {q} S T real =
    record {
      rank = λ r o h. elim (T.same r o) [ inl e ↦ S.rank r o (omega arith) | inr e ↦ omega arith ];
      cap = λ r o h. elim (T.same r o) [
        | inl e ↦ omega (arith, S.cap r o (omega arith))
        | inr e ↦ rw (e.0, e.1) T.cap
      ];
      order = λ a b p o l h. elim (T.same a p) [
        | inl e ↦ elim (T.same b o) [
          | inl f ↦ omega (arith, S.order a b p o l (omega arith))
          | inr f ↦ omega (arith, T.pass a p (omega arith), S.cap a p (omega arith))
        ]
        | inr e ↦ elim (T.same b o) [
          | inl f ↦ omega (arith, T.pass b o (omega arith))
          | inr f ↦ omega arith
        ]
      ];
    }
