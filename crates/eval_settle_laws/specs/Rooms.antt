-- What lasts while answers come, and the room on the stack of what a key comes to.
use Rattle.std.specs.Prelude.{◌≡◌, ℕ, ◌+◌, length}
use Rattle.std.proofs.Common.{sym, ◌∙◌, arith}
use mathlib.Core.List.{List, []}
use Rattle.std.proofs.Math.Option.{Option}
use Rattle.answers.specs.Ask.{value, Trail, lookup}
use Rattle.answers.specs.Theory.Sound.{Within, run-keeps}
use Rattle.rules.specs.Bytes.{Text}
use Rattle.rules.specs.Tree.{simple, array, object, unresolved}
use Rattle.rules.specs.Values.{Answer}
use Rattle.rules.specs.Layers.{Layer, written, settled, Counted, one, merged, gather, deeper, layers_of}
use Rattle.rules.specs.Settled.{push_all, deeper_in, deeper_of, gather_in}
use Rattle.theory.specs.Depths.{height_in}
use Rattle.theory.specs.Room.{objects-gathered}
use Rattle.theory_order.specs.Settle.{key_in}
use Rattle.theory_order.specs.Settling.{key-gathers}
use Rattle.theory_order.specs.Clauses.{Task}
use Rattle.eval_groups.specs.Entries.{entries_of, Objects}
use Rattle.eval_groups.specs.Room.{step_fits}
use Rattle.eval_frames.specs.Weights.{root_below}
use Rattle.eval_value_laws.specs.Counting.{NoObject, one-low}
use Rattle.eval_value_laws.specs.OneRoom.{one-fits}
use Rattle.eval_settle_laws.specs.Ground.{settling_room, Lasting, LayerFits, ObjectsFit, Ground, Sound}

-- ---- while answers come

pub lasting-later : {t : Task} {S S' : Trail Answer} {P : (ℕ → Option Answer) → Type 0} → Within S S' → Lasting t S P → Lasting t S' P
lasting-later g f = record { is = λ S'' h l. f.is S'' (λ q r e. h q r (g q r e)) l }

-- so it is now
pub lasting-now : {T B : List ℕ} {G : Ground T B} → Sound G → {P : (ℕ → Option Answer) → Type 0} → Lasting G.t G.S P → P (lookup G.S)
lasting-now {G = G} H f = f.is G.S (λ q r e. e) (root_below H.state)

-- ---- what a key comes to is the same with more answers, and has room above the members of all keys

module _ (t : Task) (S : Trail Answer) (os : List Layer) (k : Text) where
  key-stays : (c : Counted) → key_in os k (lookup S) ≡ value c → (S' : Trail Answer) → Within S S' → key_in os k (lookup S') ≡ value c
  key-stays c e S' g =
      key-gathers os k (lookup S') ∙ run-keeps S S' g (gather (deeper k (layers_of os)) []) (sym (key-gathers os k (lookup S)) ∙ e)

  module _ (base : ℕ) (o : Objects os) (f : Lasting t S (ObjectsFit base os)) where
    pub merged-room : (os' : List Layer) → Objects os' → key_in os k (lookup S) ≡ value (merged os') → (hi : ℕ) → hi ≡ base + length (entries_of os) + length os'
        → Lasting t S (ObjectsFit hi os')
    unfolding key_in deeper_in gather_in
    merged-room os' o' e hi h = record {
      is = λ S' g l.
          let known = lookup S' in
          let below = deeper_of known k (push_all known os) in
          rw h
          (step_fits known settling_room base os o (f.is S' g l) k os' o' (objects-gathered known below.0 below.1 [] os' (key-stays (merged os') e S' g)));
    }

    pub one-room : (l : Layer) → key_in os k (lookup S) ≡ value (one l) → (top : ℕ) → top ≡ base + length (entries_of os) → Lasting t S (LayerFits top l)
    unfolding key_in deeper_in gather_in
    one-room l e top h = record {
      is = λ S' g m.
          let known = lookup S' in
          let below = deeper_of known k (push_all known os) in
          let z = key-stays (one l) e S' g in
          go S' (f.is S' g m) l z (one-low known (height_in below.0) below.0 below.1 [] l (omega arith) z).2;
    }
      where
        go : (S' : Trail Answer) → ObjectsFit base os (lookup S') → (l : Layer) → key_in os k (lookup S') ≡ value (one l) → NoObject l → LayerFits top l (lookup S')
        go S' x (written (simple y)) z n = tt
        go S' x (written (array es)) z n = rw h (one-fits (lookup S') settling_room base os o x k es z)
        go S' x (written (object fs)) z n = absurd n
        go S' x (written (unresolved b ps)) z n = absurd n
        go S' x (settled v) z n = tt
