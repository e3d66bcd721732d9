-- `questions::parts::ask_named_lock` meets its contract: refused with its number, or what the rule gives.
-- Assumes nothing.
use Rattle.std.specs.Prelude.{◌≡◌, ℕ}
use Rattle.std.proofs.Common.{sym, ap, ap₂, ◌∙◌, arith, eq-eqb}
use Rattle.basics.specs.Arrays.{at_index}
use Rattle.state.specs.Lent.{state_in}
use Rattle.state.specs.State.{request_of}
use Rattle.state.specs.Weights.{weight}
use Rattle.state.specs.Holders.{held_facts, carried_small}
use Rattle.weights.specs.Keys.{key_holder, key_object, others_key, object_key, lowest_key_by}
use Rattle.one_holder.specs.OneHolder.{holder_key}
use Rattle.rule.specs.Granting.{named_key, named_key_of}
use Rattle.rule.specs.Decided.{named_decided}
use Rattle.refusals.specs.Refusals.{job_refusal}
use Rattle.questions.specs.Answers.{NamedAnswer}
use Rattle.questions.specs.Questions.{ask_named_lock}
use Rattle.questions.proofs.Asked as A
use Rattle.questions.proofs.parts.ask_named_lock.Goals as goal

pub job_refusal-requires : goal.job_refusal-requires
job_refusal-requires c = A.jobs_known (state_in c.args.parts.now) c.fits_sized.result c.fits_sized.ensures

pub deciding_key-key-requires : goal.deciding_key-key-requires
deciding_key-key-requires c =
    let known = A.job_known (state_in c.args.parts.now) c.fits_sized.result c.fits_sized.ensures c.args.rank c.in_ok-job_refusal.ensures in
    (known.0.objects_fit, carried_small _ known.3)

pub bounds-parts-rank : goal.bounds-parts-rank
bounds-parts-rank c =
    let known = A.job_known (state_in c.args.parts.now) c.fits_sized.result c.fits_sized.ensures c.args.rank c.in_ok-job_refusal.ensures in
    omega (arith, known.1, known.2)

pub returns : goal.returns
unfolding lowest_key_by object_key others_key holder_key weight named_key ask_named_lock
returns c =
    let s = state_in c.args.parts.now in
    let r = c.args.rank in
    let known = A.job_known s c.fits_sized.result c.fits_sized.ensures r c.in_ok-job_refusal.ensures in
    let key : c.named_key-named.result ≡ named_key s r =
    c.named_key-named.ensures ∙ ap₂ (λ (q k : ℕ). named_key_of q k r) (sym (at_index s.request r known.1)) c.deciding_key-key.ensures
    ∙ named_decided s (held_facts s known.3) (request_of s r) r known.2 in
    ap₂ NamedAnswer.Lock (c.key_holder.ensures ∙ ap key_holder key) (c.key_object.ensures ∙ ap key_object key)
    ∙ sym (simp (eq-eqb (job_refusal s r) 0 (sym (c.in_ok-job_refusal.ensures ∙ A.job_number s c.fits_sized.result c.fits_sized.ensures r))))
