-- The job resolve: one law for each return, and what its callees ask.
use Rattle.std.specs.Prelude.{Result as Returned, Ok, Err, ◌≡◌, Bool, List, ◌++◌, ℕ, ◌≤◌, leb, length, take, drop}
use Rattle.std.proofs.Math.Path.{refl, sym, ap, subst}
use Rattle.std.proofs.Common.{◌∙◌, append_assoc, arith, length-take-le}
use Rattle.std.proofs.Math.Seq.{length_front}
use Rattle.rules.specs.Sizes.{max_room, max_budget}
use Rattle.rules.specs.Refusals.{Refusal, number_of, place_of}
use Rattle.rules.specs.Documents.{Setting, Input, valid, refused, inputs}
use Rattle.rules.specs.Jobs.{Result, Resolved, refused_with, room_of, resolved, located, resolve_job, buffers_of}
use Rattle.text_chars.specs.declared.Refusal.{Refusal as Refused}
use Rattle.read_documents.specs.Clauses.{InputRefuses}
use Rattle.read_documents.specs.declared.Reading.{Reading}
use Rattle.eval_state.specs.Memories.{job_bytes}
use Rattle.job_results.specs.Answers.{Told, resolution_told, located_told}
use Rattle.job_results.specs.Clauses.{ResolveIs}
use Rattle.job_results.specs.declared.Resolution.{Resolution}
use Rattle.job_inputs.specs.Buffers.Contracts.{FinishedIs}
use Rattle.job_inputs.specs.Buffers.Filled.{Begins, finished-buffers}
use Rattle.job_inputs.specs.Clauses.{TaskCase, TaskIs}
use Rattle.job_root.specs.Output.Contracts.{HandedBack}
use Rattle.job_resolve_laws.specs.Clauses.{ResolutionAsked, ResolutionIs}

-- ---- the room of a buffer is lent, and comes back

module _ (x : List ℕ) {n : ℕ} (e : n ≡ room_of (length x)) where
  pub part-fits : n ≤ length x
  part-fits = omega arith

  pub part_count : n ≡ length (take n x)
  part_count = sym (length-take-le n x part-fits)

-- the length stays, also where the buffer is cleared after it
pub part-kept : (x y z : List ℕ) (n : ℕ) → length z ≡ length (y ++ drop n x) → length y ≡ length (take n x) → length z ≡ length x
part-kept x y z n h l = h ∙ length_front x y n l

pub ruleset parts = (part-fits, part_count)

part_length : (x : List ℕ) (n : ℕ) → n ≡ room_of (length x) → length (take n x) ≡ room_of (length x)
part_length x n e = sym (part_count x e) ∙ e

part_room : (x : List ℕ) (n : ℕ) → n ≡ room_of (length x) → length (take n x) ≤ max_room
part_room x n e = omega (arith, part_length x n e)

-- what begins a part at the beginning begins the whole
begins-whole : {xs y : List ℕ} (z : List ℕ) → Begins xs y → Begins xs (y ++ z)
begins-whole {xs} {y} z h = record { rest = h.rest ++ z; is = ap (λ (l : List ℕ). l ++ z) h.is ∙ append_assoc xs h.rest z }

-- ---- the whole job

module _ (s e : List ℕ) (budget : ℕ) (b x : List ℕ) {fits : Bool} (f : fits ≡ leb budget max_budget) {T B T' B' : List ℕ} {q : Returned Reading Refused}
    (W : TaskIs fits s e T B T' B' q) {v : Reading} (z : q ≡ Ok v) (l : length B ≡ job_bytes)
    {i k : ℕ} (o : i ≡ room_of (length b)) (u : k ≡ room_of (length x)) where
  task : TaskCase fits s e T' B' (Ok v)
  task = rw z at W.is

  pub resolution-asked : ResolutionAsked T' B' e budget (take i b) (take k x)
  resolution-asked = record {
    others = fits;
    document = s;
    items = v.items;
    setting = task.0;
    ready = task.1;
    bytes = omega (arith, W.kept-bytes);
    most = omega (arith, W.kept-bytes);
    trail-room = part_room b i o;
    text-room = part_room x k u;
  }

module _ (s e : List ℕ) (budget : ℕ) (b c x : List ℕ) where
  abbrev job : Resolved
  job = resolve_job s e budget (length b) (length c) (length x)

  -- what resolving comes to, before its place is told
  unfoldable result : Result
  result = resolved budget (room_of (length b)) (room_of (length c)) (room_of (length x)) (inputs (leb budget max_budget) s e)

  job-located : job ≡ located s result
  unfolding resolve_job result
  job-located = refl

  result-of : (fits : Bool) → fits ≡ leb budget max_budget → (i : Input Setting) → inputs fits s e ≡ i
      → result ≡ resolved budget (room_of (length b)) (room_of (length c)) (room_of (length x)) i
  unfolding result
  result-of fits f i q =
      ap (resolved budget (room_of (length b)) (room_of (length c)) (room_of (length x))) (ap (λ (t : Bool). inputs t s e) (sym f) ∙ q)

  -- buffers that begin with what the rules hand back, cleared behind it
  ended : {b' c' x' b'' c'' x'' : List ℕ} {r : Returned Resolution Refused} → HandedBack result b' c' x' r
      → length b' ≡ length b → length c' ≡ length c → length x' ≡ length x → FinishedIs r b' c' x' b'' c'' x''
      → ResolveIs s e budget b c x b'' c'' x'' r
  ended {b'} {c'} {x'} h i j k F = record {
    answer = rw job-located (ap (λ (t : Told). located_told s t) h.told);
    buffers = rw job-located (finished-buffers s h.holding h.told F
        ∙ ap (λ (n : ℕ). buffers_of n (length c') (length x') (located s result)) i
        ∙ ap (λ (n : ℕ). buffers_of (length b) n (length x') (located s result)) j
        ∙ ap (λ (n : ℕ). buffers_of (length b) (length c) n (located s result)) k);
  }

  module _ {fits : Bool} (f : fits ≡ leb budget max_budget) {T B T' B' : List ℕ} {q : Returned Reading Refused} (W : TaskIs fits s e T B T' B' q) where
    pub resolve-refused : {d : Refused} {b'' c'' x'' : List ℕ} → q ≡ Err d → FinishedIs (Err d) b c x b'' c'' x''
        → ResolveIs s e budget b c x b'' c'' x'' (Err d)
    unfolding refused_with resolved
    resolve-refused {d} z F =
        let h : InputRefuses (inputs fits s e) d.number d.place = rw z at W.is in
        let y : Refusal = h.0 in
        ended (subst (λ (R : Result). HandedBack R b c x (Err d)) (sym (result-of fits f (refused y) h.1))
        (record {
          told = told (number_of y) (place_of y) h.2 h.3;
          holding = record {
            trail-begins = record { rest = b; is = refl };
            table-begins = record { rest = c; is = refl };
            text-begins = record { rest = x; is = refl };
          };
        }))
        refl refl refl F
      where
        told : (m p : ℕ) → d.number ≡ m → d.place.0 ≡ p
            → resolution_told (Err d) ≡ record { number = m; place = p; count = 0; trail = 0; table = 0; text = 0 }
        told m p i j = rw (i, j)

    module _ {v : Reading} (z : q ≡ Ok v) (l : length B ≡ job_bytes) {i k : ℕ} (o : i ≡ room_of (length b))
        (u : k ≡ room_of (length x)) where
      abbrev asked : ResolutionAsked T' B' e budget (take i b) (take k x)
      asked = resolution-asked s e budget b x f W z l o u

      -- the task is that of the rooms
      done : {j : ℕ} → j ≡ room_of (length c) → {b' c' x' : List ℕ} {r : Returned Resolution Refused}
          → ResolutionIs T' B' e budget (take i b) b' (take j c) c' (take k x) x' r → HandedBack result b' c' x' r
      unfolding resolution-asked resolved
      done {j} v {b'} {c'} {x'} {r} R =
          let x = part_length x k u in
          subst (λ (R : Result). HandedBack R b' c' x' r) (sym (result-of fits f (valid asked.setting) asked.ready.read))
          (rw (sym (part_length b i o), sym (part_length c j v), sym x) (R.is asked))

      pub resolve-done : {j : ℕ} {b' c' x' b'' c'' x'' : List ℕ} {r : Returned Resolution Refused} → j ≡ room_of (length c)
          → ResolutionIs T' B' e budget (take i b) b' (take j c) c' (take k x) x' r
          → length b' ≡ length (take i b) → length c' ≡ length (take j c) → length x' ≡ length (take k x)
          → FinishedIs r (b' ++ drop i b) (c' ++ drop j c) (x' ++ drop k x) b'' c'' x'' → ResolveIs s e budget b c x b'' c'' x'' r
      resolve-done {j} {b'} {c'} {x'} {r = r} v R kb kc kx F =
          let h = done v R in
          ended (record {
            told = h.told;
            holding = record {
              trail-begins = begins-whole (drop i b) h.holding.trail-begins;
              table-begins = begins-whole (drop j c) h.holding.table-begins;
              text-begins = begins-whole (drop k x) h.holding.text-begins;
            };
          })
          (length_front b b' i kb) (length_front c c' j kc) (length_front x x' k kx) F
