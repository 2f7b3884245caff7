-- Looks at words that nobody tells.
use Rattle.std.proofs.Common.{◌≡◌, ◌≢◌, ℕ, ◌*◌, ◌/◌, ◌<◌, ◌≤◌, refl, sym, ap, subst, ◌∙◌, arith, eq-eqb, ne_eqb}
use Rattle.base_types.specs.declared.histories.Answer.{Answer}
use Rattle.base_types.specs.declared.histories.Answer.TheVariants.{Read, Reply as Replied}
use Rattle.base_types.specs.declared.instructions.Reply.TheVariants.{Ok}
use Rattle.act_invoke.specs.model_kernel.Acts.{wanted}
use Rattle.act_invoke.specs.model_kernel.Outcomes.{Outcome, finish, looked, outcome, set_reg}
use Rattle.act_invoke.specs.model_kernel.State.{Supply, AtlasState, ContainerCell, ContainerState, LocusState}
use Rattle.act_invoke.specs.model_kernel.Words.{put}
use Rattle.act_invoke.specs.act_alone.Loci.{container_with}
use Rattle.act_invoke.specs.act_alone.declared.loci.Head.{Head}
use Rattle.act_look.specs.Looks.{Looked, LooksSomehow, ReachesSomehow, Shows, done_by, needed_by}
use Rattle.act_look.specs.declared.aim.Access.{Access}
use Rattle.act_look.specs.declared.aim.Access.TheVariants.{Load as Reads, Store as Writes}
use Rattle.act_look.proofs.Cases.{shows_looked}

put_there : (words : ℕ → ℕ) (address word : ℕ) → put words address word address ≡ word
put_there words address word = rw (eq-eqb address address refl) refl

put_elsewhere : (words : ℕ → ℕ) (address word at : ℕ) → at ≢ address → put words address word at ≡ words at
put_elsewhere words address word at apart = rw (ne_eqb at address apart) refl

-- the word that was read is put in
pub load_reaches : (l m : LocusState) (address d word : ℕ) (answer : Answer) → m ≡ finish (set_reg l d word) Ok → answer ≡ Read word → ReachesSomehow l m address (Reads d) answer
load_reaches l m address d word answer is says = record {
  before = λ words. put words address word;
  after = λ words. put words address word;
  elsewhere = λ words at apart. (put_elsewhere words address word at apart, put_elsewhere words address word at apart);
  made = λ words h. record {
    locus = is ∙ ap (λ v. finish (set_reg l d v) Ok) (sym (put_there words address word));
    answers = says ∙ ap Read (sym (put_there words address word));
    container = refl;
    newborn = refl;
  };
}

-- any words, of which one is written
pub store_reaches : (l m : LocusState) (address word : ℕ) (answer : Answer) → m ≡ finish l Ok → answer ≡ Replied Ok → ReachesSomehow l m address (Writes word) answer
store_reaches l m address word answer is says = record {
  before = λ words. words;
  after = λ words. put words address word;
  elsewhere = λ words at apart. (refl, put_elsewhere words address word at apart);
  made = λ words h. record { locus = is; answers = says; container = refl; newborn = refl };
}

-- the look of an aim, at any words
abbrev pub Makes : LocusState → Head → ℕ → Access → Type 0
Makes l h address access = (me : ℕ) (s : Supply) (a : AtlasState) (c : ContainerState)
    → outcome s l (wanted me l) a (ContainerCell c) ≡ looked l c address (needed_by access) (done_by l c address access)

pub shown_somehow : (l m : LocusState) (h : Head) (address needed : ℕ) (access : Access) (answer : Answer) → Makes l h address access → needed ≡ needed_by access
    → ((words : ℕ → ℕ) (done : Outcome) → Shows (looked l (container_with words h) address needed done) m answer) → LooksSomehow l m h answer
shown_somehow l m h address needed access answer makes same shows = record {
  before = λ words. words;
  after = λ words. words;
  past = λ words at _. (refl, refl);
  made = λ words me s a.
      let here = container_with words h in
      shows_looked _ _ m answer here (makes me s a here ∙ ap (λ n. looked l here address n (done_by l here address access)) (sym same)) (shows words (done_by l here address access));
}

pub reached_somehow : (l m : LocusState) (h : Head) (address needed : ℕ) (access : Access) (answer : Answer) → Makes l h address access → needed ≡ needed_by access → address / 128 < h.pages
    → ((words : ℕ → ℕ) (done : Outcome) → looked l (container_with words h) address needed done ≡ done) → ReachesSomehow l m address access answer → LooksSomehow l m h answer
reached_somehow l m h address needed access answer makes same low comes reaches = record {
  before = reaches.before;
  after = reaches.after;
  past = λ words at high. reaches.elsewhere words at (λ here. absurd (omega (arith, low, high, here)));
  made = λ words me s a.
      let here = container_with (reaches.before words) h in
      let done = done_by l here address access in
      subst (λ o. Looked o m answer here (container_with (reaches.after words) h))
      (sym (makes me s a here ∙ ap (λ n. looked l here address n done) (sym same) ∙ comes (reaches.before words) done)) (reaches.made words h);
}
