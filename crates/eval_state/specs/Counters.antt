-- The counters of a value that was written into the room are its sizes.
use Rattle.std.specs.Prelude.{◌≡◌, List, ℕ, length, drop}
use Rattle.std.proofs.Common.{sym, ap, ◌∙◌, arith, length-drop, length-take-le}
use Rattle.rules.specs.Bytes.{Text}
use Rattle.rules.specs.Sizes.{max_records}
use Rattle.rules.specs.Values.{record_size, text_size}
use Rattle.rules.specs.Sheet.{texts}
use Rattle.theory.specs.Layout.{length-texts}
use Rattle.sheet_kept.specs.Kept.{Held, named}
use Rattle.sheet_kept.proofs.Sizes.{kept-records}
use Rattle.eval_writer.specs.Clauses.{InRoom}
use Rattle.eval_writer.specs.declared.Out.{Out}
use Rattle.eval_store.specs.Values.Contracts.{Full}

module _ {room : List ℕ} {o : Out} {key : ℕ → Text} {v : Held} (f : Full room o) (i : InRoom key v room o) where
  pub records-are : record_size (named key v) ≡ o.rec.0
  records-are =
      sym (kept-records key 0 v) ∙ sym (ap length i.records) ∙ length-take-le o.rec.0 room (omega (arith, f.whole, f.rec))

  pub texts-are : text_size (named key v) ≡ o.text.0
  texts-are =
      sym (length-texts (named key v)) ∙ sym (ap length i.texts)
      ∙ length-take-le o.text.0 (drop max_records room) (omega (arith, f.whole, f.text, length-drop max_records room))
