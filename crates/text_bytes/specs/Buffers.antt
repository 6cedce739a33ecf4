-- Text that is laid at the start of a buffer: by single bytes, and behind text that was laid.
use Rattle.std.specs.Prelude.{◌≡◌, refl, List, ◌++◌, ℕ, ◌+◌, ◌≤◌, length, take, drop}
use Rattle.std.proofs.Common.{sym, ap, ◌∙◌, append_assoc, arith, length-append, drop-drop, take_at, drop_at}
use Rattle.std.proofs.lemmas.List.Edits.{sets, sets-eq}
use Rattle.std.proofs.Math.Seq.{length-sets}
use Rattle.text_chars.specs.Parts.{part, back, part-is, back_is}
use Rattle.text_bytes.specs.Clauses.{Laid, WriteIs}

-- stores one behind the other, from the start on
pub write-text : (text l : List ℕ) → length text ≤ length l → WriteIs text l (sets l 0 text) (length text)
write-text text l h =
    let e : 0 + length text ≡ length text = omega arith in
    record { is = refl; bytes = sets-eq text l 0 (omega arith) ∙ ap (λ (n : ℕ). text ++ drop n l) e; kept = length-sets l 0 text }

-- text that is laid behind text that was laid
pub laid-join : (t₁ t₂ b x y : List ℕ) (u : ℕ) → u ≡ length t₁ → Laid t₁ b x → Laid t₂ (part u x) y → Laid (t₁ ++ t₂) b (back u x y)
laid-join t₁ t₂ b x y u e h k =
    back_is u x y
    ∙ ap (λ (l : List ℕ). l ++ y) (ap (take u) h ∙ take_at t₁ (drop (length t₁) b) u (sym e))
    ∙ ap (λ (l : List ℕ). t₁ ++ l) (k ∙ ap (λ (l : List ℕ). t₂ ++ l) rest)
    ∙ sym (append_assoc t₁ t₂ (drop (length (t₁ ++ t₂)) b))
  where
    rest : drop (length t₂) (part u x) ≡ drop (length (t₁ ++ t₂)) b
    rest =
        ap (drop (length t₂)) (part-is u x ∙ ap (drop u) h ∙ drop_at t₁ (drop (length t₁) b) u (sym e))
        ∙ drop-drop (length t₂) (length t₁) b
        ∙ ap (λ (n : ℕ). drop n b) (sym (length-append t₁ t₂))
