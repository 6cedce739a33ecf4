-- What every function of settling is given, where it comes to, and what is given from there on.
use Rattle.std.specs.Prelude.{◌≡◌, List, [], ℕ, ◌≤◌, length}
use Rattle.std.proofs.Common.{◌∙◌, arith}
use Rattle.answers.specs.Ask.{Trail}
use Rattle.answers.specs.Theory.Sound.{Within}
use Rattle.rules.specs.Bytes.{Text}
use Rattle.rules.specs.Sizes.{max_environment}
use Rattle.rules.specs.Values.{Answer}
use Rattle.theory_order.specs.Clauses.{Task, KeptOf}
use Rattle.eval_writer.specs.Clauses.{Room}
use Rattle.eval_writer.specs.Copies.Contracts.{most_bytes}
use Rattle.eval_stack.specs.Model.{Work}
use Rattle.eval_state.specs.Later.{Later, later_same, later-then}
use Rattle.eval_trail.specs.Clauses.{Holding}
use Rattle.eval_trail.specs.declared.Progress.{Progress}
use Rattle.eval_question_laws.specs.Work.{Tasked, Lent}
use Rattle.eval_settle_laws.specs.Ground.{settling_room, Ground, Sound}

-- ---- a task, with the trail and the count so far, in the job's memory and the caller's buffers

pub record Given (T B E w room trail text : List ℕ) (p : Progress) (budget : ℕ) : Type 0 where
  pub whole : Room room
  pub bytes : length B ≤ most_bytes
  pub environment : length E ≤ max_environment
  pub work : Work w
  pub t : Task
  pub task : (base : ℕ) → base ≤ settling_room → Tasked t E base
  pub budgeted : budget ≡ t.budget
  pub key : ℕ → Text
  pub items : ℕ
  pub S : Trail Answer
  pub n : ℕ
  pub kept : KeptOf t S n
  pub holding : Holding t key items T B trail text p [] S n

module _ {T B E w room trail text : List ℕ} {p : Progress} {budget : ℕ} (g : Given T B E w room trail text p budget) where
  abbrev pub ground_of : Ground T B
  ground_of = record { t = g.t; key = g.key; items = g.items; S = g.S; n = g.n }

  pub sound_of : Sound ground_of
  sound_of = record { bytes = g.bytes; kept = g.kept; state = g.holding.state }

-- where it comes to
pub record Come {T B E w room trail text : List ℕ} {p : Progress} {budget : ℕ} (g : Given T B E w room trail text p budget) (T' B' trail' text' : List ℕ) (p' : Progress)
    (S' : Trail Answer) (n' : ℕ) : Type 0 where
  pub kept : KeptOf g.t S' n'
  pub grows : Within g.S S'
  pub holding : Holding g.t g.key g.items T' B' trail' text' p' [] S' n'
  pub later : Later T B g.S T' B' S'

module _ {T B E w room trail text : List ℕ} {p : Progress} {budget : ℕ} (g : Given T B E w room trail text p budget) where
  -- nothing was done
  pub come-here : Come g T B trail text p g.S g.n
  come-here = record { kept = g.kept; grows = λ q r e. e; holding = g.holding; later = later_same T B g.S }

  -- what is lent where a question is worked out
  pub given-lent : {top : ℕ} → top ≤ settling_room → Lent B E w room top
  given-lent l = record { whole = g.whole; bytes = g.bytes; environment = g.environment; work = g.work; used = omega arith }

  module _ {T' B' trail' text' : List ℕ} {p' : Progress} {S' : Trail Answer} {n' : ℕ} (c : Come g T' B' trail' text' p' S' n') where
    -- what is given where it has come to
    abbrev pub given-on : (x y : List ℕ) → length x ≡ length w → length y ≡ length room → Given T' B' E x y trail' text' p' budget
    given-on x y l k = record {
      whole = k ∙ g.whole;
      bytes = omega (arith, g.bytes, c.later.document.bytes);
      environment = g.environment;
      work = omega (arith, g.work);
      t = g.t;
      task = g.task;
      budgeted = g.budgeted;
      key = g.key;
      items = g.items;
      S = S';
      n = n';
      kept = c.kept;
      holding = c.holding;
    }

    -- and further on
    pub come-on : (x y : List ℕ) (l : length x ≡ length w) (k : length y ≡ length room) {T'' B'' trail'' text'' : List ℕ} {p'' : Progress} {S'' : Trail Answer} {n'' : ℕ}
        → Come (given-on x y l k) T'' B'' trail'' text'' p'' S'' n'' → Come g T'' B'' trail'' text'' p'' S'' n''
    come-on x y l k d = record {
      kept = d.kept;
      grows = λ q r e. d.grows q r (c.grows q r e);
      holding = d.holding;
      later = later-then c.later d.later;
    }
