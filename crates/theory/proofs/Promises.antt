-- What a look-up finds in a table that resolve hands back, from what it finds in any that check says yes to (specs/Promises.antt).
use Rattle.std.specs.Prelude.{◌≡◌, List, ℕ, ◌≤◌, length}
use Rattle.std.proofs.Math.Option.{none}
use Rattle.answers.specs.Ask.{Trail}
use Rattle.rules.specs.Sizes.{max_path_text}
use Rattle.rules.specs.Bytes.{Text}
use Rattle.rules.specs.Refusals.{ok}
use Rattle.rules.specs.Utf8.{ill_formed}
use Rattle.rules.specs.Paths.{path_text}
use Rattle.rules.specs.Values.{Value, Answer}
use Rattle.rules.specs.NamedValues.{value_at}
use Rattle.rules.specs.Jobs.{resolve_job, look_up_job}
use Rattle.rules.specs.Reordering.{LaidOut}
use Rattle.theory.specs.Demands.{Succeeds, resolved-accepted}
use Rattle.theory.specs.Promises.{FoundIn, accepted-look-up}

-- so it does in every table that resolve hands back, where the value is the one that resolving comes to (`resolved-is`)
pub resolved-look-up : (document environment : List ℕ) (budget trail_length table_length text_length : ℕ)
    → let r = resolve_job document environment budget trail_length table_length text_length in
    Succeeds r → (S : Trail Answer) (v : Value) → LaidOut S v r.trail r.table r.text
    → (path : List ℕ) (names : List Text) (end : ℕ) → length path ≤ max_path_text → ill_formed path ≡ none → path_text path ≡ ok names end
    → FoundIn r.table r.text (look_up_job r.table r.text path) (value_at names v)
resolved-look-up d e budget l m n done' S v laid = accepted-look-up d e _ _ _ (resolved-accepted d e budget l m n done') S v laid
