-- Commands one after another.
use Rattle.plain_eval.proofs.Vocabulary
use Vocabulary.{Bool, Err, List, Ok, Result, [], ap, drop, false, get_or, length, ℕ, ◌++◌, ◌+◌, ◌<◌}
use Vocabulary.{◌∷◌, ◌≡◌, ◌≤◌, drop_all, trees_of, node_view, nodes_view, Node, child, free, eval}
use Vocabulary.{evals, Meaning, then_value, Inner, Setting, commands, Spends, ended, Ran, Stand}
use Vocabulary.{Went, stand, End, Halted, Run}
use Rattle.plain_eval.proofs.InWords.{child_ran, split_at}
use Rattle.plain_eval.proofs.Steps.{spend_gave, told_value, value_goes, value_stops}

-- the command at a place before the last, and the last
pub command_at : (front : List Node) (k : ℕ) (n last : Node) → k < length front → n ≡ get_or front k n → drop k front ++ last ∷ [] ≡ n ∷ (drop (k + 1) front ++ last ∷ [])
command_at front k n last there is = ap (λ x. x ++ last ∷ []) (split_at front k n there is)

pub last_at : (front : List Node) (k : ℕ) (last : Node) → length front ≤ k → drop k front ++ last ∷ [] ≡ last ∷ []
last_at front k last over = ap (λ x. x ++ last ∷ []) (drop_all k front over)

module _ {H : Type 0} (g : Setting H) (i : Inner H) where
  -- commands, the first of which has this number, behind this value
  abbrev pub commands_at : List Node → ℕ → List ℕ → Meaning H
  commands_at ns k v = commands (evals g i free k (trees_of (nodes_view ns))) v

  -- whatever they come to behind any value, the whole comes to
  pub record ScriptLeft (w : Bool) (whole : Meaning H) (before : Stand H) (ns : List Node) (k : ℕ) (mid : Stand H) : Type 0 where
    pub closes : (e : End) (after : Stand H) → ((v : List ℕ) → Ran w (commands_at ns k v) mid e after) → Ran w whole before e after

  -- a command and those behind it, once its unit is paid
  abbrev pub paid_by : Node → List Node → ℕ → Meaning H
  paid_by n rest k path s = then_value (child free k (node_view n) (eval g i (node_view n)) path s) (λ y t. commands_at rest (k + 1) y path t)

  pub unit : {w : Bool} {whole : Meaning H} {before : Stand H} {ns : List Node} {k : ℕ} (old new : Run) (host : H) (n : Node) (rest : List Node) (r : Result (Unit {0}) Halted)
      → ScriptLeft w whole before ns k (stand old host) → ns ≡ n ∷ rest → Spends old r new → Went w whole before r new.end (λ u. paid_by n rest k) (stand new host)
  unit {w = w} {k = k} old new host n rest (Ok u) left is s =
      record { closes = λ e after r. left.closes e after (λ v. rw is (((spend_gave old new host (Ok u) s).went w (λ u. paid_by n rest k)).closes e after r)) }
  unit {w = w} {k = k} old new host n rest (Err h) left is s =
      left.closes new.end (stand new host) (λ v. rw is ((spend_gave old new host (Err h) s).went w (λ u. paid_by n rest k)))

  -- a command before the last ended: those behind it follow, or it is the end
  abbrev pub Followed : Bool → Meaning H → Stand H → List Node → ℕ → Result (Unit {0}) Halted → End → Stand H → Type 0
  Followed w whole before ns k (Ok u) e out = ScriptLeft w whole before ns k out
  Followed w whole before ns k (Err h) e out = Ran w whole before e out

  pub command_ran : {w : Bool} {whole : Meaning H} {before out : Stand H} (front : List Node) (k : ℕ) (old new : Run) (host : H) (n last : Node) (e : End) (x : Unit {0}) (r : Result (Unit {0}) Halted)
      → ScriptLeft w whole before (drop k front ++ last ∷ []) k (stand old host) → k < length front → n ≡ get_or front k n → Spends old (Ok x) new → r ≡ ended e → Ran false (eval g i (node_view n)) (stand new host) e out
      → Followed w whole before (drop (k + 1) front ++ last ∷ []) (k + 1) r e out
  command_ran {w = w} {out = out} front k old new host n last e x (Ok u) left there is s value ran = record {
    closes = λ end after q. (unit old new host n (drop (k + 1) front ++ last ∷ []) (Ok x) left (command_at front k n last there is) s).closes end after (record {
      by = λ path cost acts. value_goes false _ _ e u out w end after value ((child_ran g i free k (node_view n) ran).by path cost acts) (λ y c a same. (q y).by path c a);
    });
  }
  command_ran {w = w} {out = out} front k old new host n last e x (Err h) left there is s none ran =
      (unit old new host n (drop (k + 1) front ++ last ∷ []) (Ok x) left (command_at front k n last there is) s).closes e out
      (record { by = λ path cost acts. value_stops false w _ _ e h out none ((child_ran g i free k (node_view n) ran).by path cost acts) })

  -- the last one
  last_by : {w : Bool} {mid out : Stand H} (n : Node) (k : ℕ) (e : End) (r : Result (Unit {0}) Halted) → r ≡ ended e → Ran w (eval g i (node_view n)) mid e out → Ran w (paid_by n [] k) mid e out
  last_by {w = w} {out = out} n k e (Ok u) is ran = record {
    by = λ path cost acts. value_goes w _ _ e u out w e out is ((child_ran g i free k (node_view n) ran).by path cost acts) (λ y c a same. told_value w y e u out c a is same);
  }
  last_by {w = w} {out = out} n k e (Err h) is ran = record { by = λ path cost acts. value_stops w w _ _ e h out is ((child_ran g i free k (node_view n) ran).by path cost acts) }

  pub last_ends : {w : Bool} {whole : Meaning H} {before out : Stand H} (front : List Node) (k : ℕ) (old new : Run) (host : H) (last : Node) (e : End) (x : Unit {0}) (r : Result (Unit {0}) Halted)
      → ScriptLeft w whole before (drop k front ++ last ∷ []) k (stand old host) → length front ≤ k → Spends old (Ok x) new → r ≡ ended e → Ran w (eval g i (node_view last)) (stand new host) e out → Ran w whole before e out
  last_ends {out = out} front k old new host last e x r left over s is ran = (unit old new host last [] (Ok x) left (last_at front k last over) s).closes e out (last_by last k e r is ran)
