-- Words in order, and the pieces of a word.
use Rattle.plain_eval.proofs.Vocabulary
use Vocabulary.{Bool, Err, List, Ok, Result, [], ap, arith, drop, false, get_or, length, nat_lt}
use Vocabulary.{refl, sym, true, ℕ, ◌++◌, ◌+◌, ◌<◌, ◌∙◌, ◌∷◌, ◌≡◌, ◌≤◌, nat_tests, append-nil}
use Vocabulary.{append_assoc, drop_all, drop_more, if◌then◌else◌, sum_by, too_long, text_limit}
use Vocabulary.{TclFault, Tree, trees_of, node_step, node_view, nodes_view, Node, fold_out-Node}
use Vocabulary.{map-Node, out-Node, Node-F, child, one, eval, evals, parts, words, Act, Ends}
use Vocabulary.{Meaning, Outcome, State, then_value, Inner, Setting, after_piece, in_order, in_word}
use Vocabulary.{told, word_at, Raised, Value, AddsPiece, AddsValue, Is, Limited, ended, value_in}
use Vocabulary.{EndsAs, Gave, GoesOn, Ran, Stand, Went, from, End, Halted}
use Rattle.std.proofs.Math.Seq.{drop-append_seam}
use Rattle.std.proofs.lemmas.List.Sums.{sum_by-append, sum_by_push}
use Rattle.std.specs.Bool.{MatchBool}
use Rattle.rule_nodes.specs.Parts.{or_alone, parts_in}
use Rattle.tcl_trees.specs.Tree as tree
use Rattle.plain_eval.specs.declared.run.End.TheVariants as end
use Rattle.plain_eval.proofs.Steps.{at_stand, ends_ran, goes_by, goes_self, goes_then, heard_goes}
use Rattle.plain_eval.proofs.Steps.{is_code, value_stops, valued}

-- the node at a place, and those behind it
pub split_at : {A : Type 0} (ns : List A) (k : ℕ) (n : A) → k < length ns → n ≡ get_or ns k n → drop k ns ≡ n ∷ drop (k + 1) ns
split_at ns k n there is = drop_more ns k n there ∙ ap (λ x. x ∷ drop (k + 1) ns) (sym is)

-- the tree of a node of this kind
abbrev pub step_of : Node-F Node → Tree
step_of f = node_step (map-Node Node Tree node_view f)

pub view_is : {n m : Node} → n ≡ m → node_view n ≡ step_of (out-Node m)
view_is {m = m} e = ap node_view e ∙ fold_out-Node Tree node_step m

module _ {H : Type 0} (g : Setting H) (i : Inner H) where
  -- the parts of a word are those that the code has
  word_parts : (p : Tree → ℕ) (ns : List Node) (n : Node) (P : List (Meaning H) → Type 0) → node_view n ≡ tree.word (trees_of (nodes_view ns))
      → ((q : Tree → ℕ) → P (evals g i q 0 (trees_of (nodes_view (or_alone ns n))))) → P (parts g i p (node_view n) (eval g i (node_view n)))
  word_parts p [] n P q h = rw q (rw q at (h p))
  word_parts p (x ∷ xs) n P q h = rw q (h one)

  parts_by : (p : Tree → ℕ) (f : Node-F Node) (n : Node) (P : List (Meaning H) → Type 0) → node_view n ≡ step_of f
      → ((q : Tree → ℕ) → P (evals g i q 0 (trees_of (nodes_view (parts_in f n))))) → P (parts g i p (node_view n) (eval g i (node_view n)))
  parts_by p (Node-F.Word ns) n P q h = word_parts p ns.items n P q h
  parts_by p other n P q h = rw q (rw q at (h p))

  -- the pieces of these parts from a place on, and words from a place on
  abbrev pub pieces_left : (Tree → ℕ) → List Node → ℕ → List ℕ → Meaning H
  pieces_left p ns k text = in_word told (evals g i p k (trees_of (nodes_view (drop k ns)))) text

  abbrev pub words_left : (List (List ℕ) → Meaning H) → (Tree → ℕ) → List Node → (k m : ℕ) → List (List ℕ) → Meaning H
  words_left finish p ns k m done = in_order finish (words g i p m (trees_of (nodes_view (drop k ns)))) done

  abbrev pub Word : Node → Stand H → End → Stand H → Type 0
  Word n b e a = (p : Tree → ℕ) → Ran true (in_word told (evals g i p 0 (trees_of (nodes_view (parts_in (out-Node n) n)))) []) b e a

  word_ran : (p : Tree → ℕ) (m : ℕ) (n : Node) {b : Stand H} {e : End} {a : Stand H} → Word n b e a → Ran true (word_at m (parts g i p (node_view n) (eval g i (node_view n)))) b e a
  word_ran p m n {b = b} {e = e} {a = a} r = record {
    by = λ path cost acts. parts_by p (out-Node n) n (λ ms. EndsAs true (in_word told ms [] (path ++ m ∷ []) (from b cost acts)) e a) (fold_out-Node Tree node_step n)
        (λ q. (r q).by (path ++ m ∷ []) cost acts);
  }

  -- a child comes to what its tree comes to
  pub child_ran : (p : Tree → ℕ) (k : ℕ) (t : Tree) {w : Bool} {b : Stand H} {e : End} {a : Stand H} → Ran w (eval g i t) b e a → Ran w (child p k t (eval g i t)) b e a
  child_ran p k t r = record { by = λ path cost acts. r.by (path ++ k ∷ []) (cost + p t) acts }

  -- the words of a row as the code keeps them, behind a name
  abbrev behind : (List (List ℕ) → Meaning H) → List (List ℕ) → List (List ℕ) → Meaning H
  behind go name all = go (drop (length name) all)

  long_of : (name values : List (List ℕ)) (v : List ℕ) (n total : ℕ) → sum_by length name ≡ n → total ≡ n + sum_by length values → sum_by length ((name ++ values) ++ v ∷ []) ≡ total + length v
  long_of name values v n total a b =
      let p = sum_by_push length (name ++ values) v in let q = sum_by-append length name values in omega (arith, p, q, a, b)

  -- the words up to a place: how many bytes they have behind a name, and what is left
  pub record WordsLeft (before : Stand H) (ns : List Node) (k n total : ℕ) (values : List (List ℕ)) (mid : Stand H) : Type 0 where
    pub long : total ≡ n + sum_by length values
    pub fits : total ≤ text_limit
    pub left : (w : Bool) (name : List (List ℕ)) (m : ℕ) (p : Tree → ℕ) (go : List (List ℕ) → Meaning H) → sum_by length name ≡ n
        → GoesOn w (words_left (behind go name) p ns 0 m name) before (words_left (behind go name) p ns k (m + k) (name ++ values)) mid

  pub words_begin : {s : Stand H} (ns : List Node) (n : ℕ) (values : List (List ℕ)) → values ≡ [] → n ≤ text_limit → WordsLeft s ns 0 n n values s
  words_begin ns n values none fits = rw none (record {
    long = omega arith;
    fits = fits;
    left = λ w name m p go is.
        let a : m + 0 ≡ m = omega arith in
        rw (a, append-nil name) (goes_self _ _ _);
  })

  -- the row is too long with it, or there is no memory
  refused_by : (w t : Bool) (e : End) (s : Stand H) (o : Outcome H) (c : ℕ) (a : List Act) → MatchBool t (Is (Raised too_long) e) (e ≡ end.Memory)
      → EndsAs w (if t then Ends (Raised too_long) (from s c a) else o) e s
  refused_by w true e s o c a fault = is_code w (Raised too_long) e s c a fault
  refused_by w false e s o c a none = rw none tt

  pub word_added : (w : Bool) (go : List (List ℕ) → Meaning H) (name values new : List (List ℕ)) (p : Tree → ℕ) (ns : List Node) (k m n total : ℕ) (x : Node) (e last : End) (u : Unit {0}) (r : Result ℕ Halted) {b mid : Stand H}
      → k < length ns → x ≡ get_or ns k x → Ok u ≡ ended e → Word x b e mid → sum_by length name ≡ n → total ≡ n + sum_by length values → AddsValue total (value_in e) values r new last
      → Went w (words_left (behind go name) p ns k (m + k) (name ++ values)) b r last (λ t. words_left (behind go name) p ns (k + 1) (m + (k + 1)) (name ++ new)) mid
  word_added w go name values new p ns k m n total x e last u (Ok more) there is value ran at sum adds =
      let next : m + (k + 1) ≡ m + k + 1 = omega arith in
      let all : name ++ new ≡ (name ++ values) ++ value_in e ∷ [] = ap (λ y. name ++ y) adds.2 ∙ sym (append_assoc name values (value_in e ∷ [])) in
      let long = long_of name values (value_in e) n total at sum in
      let fits : sum_by length ((name ++ values) ++ value_in e ∷ []) ≤ text_limit = omega (arith, long, adds.0, adds.1) in
      let t : nat_lt text_limit (sum_by length ((name ++ values) ++ value_in e ∷ [])) ≡ false = grind (arith, nat_tests) in
      rw (next, all, split_at ns k x there is) (goes_then (valued w _ e (Ok u) value (word_ran p (m + k) x ran)) (goes_by (λ end last r path c a. rw t (r.by path c a))))
  word_added w go name values new p ns k m n total x e last u (Err h) {mid = mid} there is value ran at sum adds =
      let long = long_of name values (value_in e) n total at sum in
      rw (split_at ns k x there is) ((valued w _ e (Ok u) value (word_ran p (m + k) x ran)).closes _ _ (record { by = λ path c a. rw long (refused_by w _ last mid _ c a adds) }))

  pub word_next : {before b mid : Stand H} (ns : List Node) (k n total more : ℕ) (values new : List (List ℕ)) (x : Node) (e last : End) (u : Unit {0}) → WordsLeft before ns k n total values b → k < length ns → x ≡ get_or ns k x
      → Ok u ≡ ended e → Word x b e mid → AddsValue total (value_in e) values (Ok more) new last → WordsLeft before ns (k + 1) n more new mid
  word_next ns k n total more values new x e last u s there is value ran adds =
      let v = sum_by_push length values (value_in e) in
      record {
        long = rw adds.2 (omega (arith, v, s.long, adds.0));
        fits = adds.1;
        left = λ w name m p go at. goes_then (s.left w name m p go at) (word_added w go name values new p ns k m n total x e last u (Ok more) there is value ran at s.long adds);
      }

  pub word_stops : {before b mid : Stand H} (ns : List Node) (k n total : ℕ) (values : List (List ℕ)) (x : Node) (e : End) (h : Halted) → WordsLeft before ns k n total values b → k < length ns → x ≡ get_or ns k x → Err h ≡ ended e → Word x b e mid
      → (name : List (List ℕ)) (m : ℕ) (p : Tree → ℕ) → sum_by length name ≡ n → Gave (λ go. words_left (behind go name) p ns 0 m name) before (Err h) e mid
  word_stops {mid = mid} ns k n total values x e h s there is none ran name m p at =
      record { went = λ w go. (s.left w name m p go at).closes e mid (rw (split_at ns k x there is) (valued w _ e (Err h) none (word_ran p (m + k) x ran))) }

  pub word_refused : {before b mid : Stand H} (ns : List Node) (k n total : ℕ) (values new : List (List ℕ)) (x : Node) (e last : End) (u : Unit {0}) (h : Halted) → WordsLeft before ns k n total values b → k < length ns → x ≡ get_or ns k x → Ok u ≡ ended e
      → Word x b e mid → AddsValue total (value_in e) values (Err h) new last → (name : List (List ℕ)) (m : ℕ) (p : Tree → ℕ) → sum_by length name ≡ n → Gave (λ go. words_left (behind go name) p ns 0 m name) before (Err h) last mid
  word_refused {mid = mid} ns k n total values new x e last u h s there is value ran adds name m p at =
      record { went = λ w go. (s.left w name m p go at).closes last mid (word_added w go name values new p ns k m n total x e last u (Err h) there is value ran at s.long adds) }

  all_done : (w : Bool) (m n : Meaning H) (s : Stand H) → m ≡ n → GoesOn w m s n s
  all_done w m n s is = rw is (goes_self _ _ _)

  pub words_done : {before mid : Stand H} {e : End} (ns : List Node) (k n total : ℕ) (values : List (List ℕ)) → WordsLeft before ns k n total values mid → length ns ≤ k
      → (name : List (List ℕ)) (m : ℕ) (p : Tree → ℕ) → sum_by length name ≡ n → Gave (λ go. words_left (behind go name) p ns 0 m name) before (Ok values) e mid
  words_done {mid = mid} ns k n total values s over name m p at =
      record { went = λ w go. goes_then (s.left w name m p go at) (rw (drop_all k ns over) (all_done w (behind go name (name ++ values)) (go values) mid (ap go (drop-append_seam name values)))) }

  pub piece_added : (p : Tree → ℕ) (ns : List Node) (k : ℕ) (n : Node) (text new : List ℕ) (e last : End) (u : Unit {0}) (r : Result (Unit {0}) Halted) {b mid : Stand H}
      → k < length ns → n ≡ get_or ns k n → Ok u ≡ ended e → Ran true (eval g i (node_view n)) b e mid → AddsPiece (text ++ value_in e) r new last
      → Went true (pieces_left p ns k text) b r last (λ x. pieces_left p ns (k + 1) new) mid
  piece_added p ns k n text new e last u (Ok x) there is value ran adds =
      let fits : length (text ++ value_in e) ≤ text_limit = adds.0 in
      let t : nat_lt text_limit (length (text ++ value_in e)) ≡ false = grind (arith, nat_tests) in
      rw (adds.1, split_at ns k n there is) (goes_then (valued true _ e (Ok u) value (child_ran p k (node_view n) ran)) (goes_by (λ end last r path c a. rw t (r.by path c a))))
  piece_added p ns k n text new e last u (Err h) {mid = mid} there is value ran adds =
      rw (split_at ns k n there is) ((valued true _ e (Ok u) value (child_ran p k (node_view n) ran)).closes _ _ (record { by = λ path c a. refused_by true _ last mid _ c a adds }))

  pub piece_stops : (p : Tree → ℕ) (ns : List Node) (k : ℕ) (n : Node) (text : List ℕ) (e : End) (h : Halted) {b mid : Stand H}
      → k < length ns → n ≡ get_or ns k n → Err h ≡ ended e → Ran true (eval g i (node_view n)) b e mid → Ran true (pieces_left p ns k text) b e mid
  piece_stops p ns k n text e h there is none ran = rw (split_at ns k n there is) (valued true _ e (Err h) none (child_ran p k (node_view n) ran))

  pub pieces_done : (p : Tree → ℕ) (ns : List Node) (k : ℕ) (text : List ℕ) (s : Stand H) → length ns ≤ k → Ran true (pieces_left p ns k text) s (end.Done (Value text)) s
  pieces_done p ns k text s over = rw (drop_all k ns over) (ends_ran (Value text))

  -- the only piece of a word
  long_by : (t : Bool) (v : List ℕ) (out : End) (s : Stand H) (c : ℕ) (a : List Act) → MatchBool t (Is (Raised too_long) out) (out ≡ end.Done (Value v)) → EndsAs true (if t then Ends (Raised too_long) (from s c a) else Ends (Value v) (from s c a)) out s
  long_by true v out s c a fault = is_code true (Raised too_long) out s c a fault
  long_by false v out s c a same = rw same (at_stand true (Value v) s c a)

  limit_by : (e out : End) (o : Outcome H) (path : List ℕ) (mid : Stand H) → EndsAs true o e mid → Limited e out → EndsAs true (then_value o (after_piece (in_word told []) [] path)) out mid
  limit_by (end.Done (Value v)) out o path mid m lim = heard_goes o (after_piece (in_word told []) [] path) (end.Done (Value v)) tt mid true out mid refl m (λ c a. long_by (nat_lt text_limit (length v)) v out mid c a lim)
  limit_by end.Memory out o path mid m lim = rw lim tt
  limit_by e out o path mid m lim =
      rw lim (value_stops true true o (after_piece (in_word told []) [] path) e (record {}) mid refl m)

  pub piece_alone : (p : Tree → ℕ) (ns : List Node) (n : Node) (e out : End) {b mid : Stand H} → length ns ≡ 1 → n ≡ get_or ns 0 n → Ran true (eval g i (node_view n)) b e mid → Limited e out → Ran true (pieces_left p ns 0 []) b out mid
  piece_alone p [] n e out one is ran lim = absurd (omega (arith, one))
  piece_alone p (x ∷ []) n e out {mid = mid} one is ran lim =
      record { by = λ path cost acts. limit_by e out _ path mid ((child_ran p 0 (node_view x) (rw is at ran)).by path cost acts) lim }
  piece_alone p (x ∷ y ∷ ys) n e out one is ran lim = absurd (omega (arith, one))

module _ {H : Type 0} where
  -- what is done with a word, where its text was told
  piece_by : (b : Bool) (f : TclFault) (st : State H) (x y : Outcome H) (go : List ℕ → State H → Outcome H) → x ≡ then_value y go → (if b then Ends (Raised f) st else x) ≡ then_value (if b then Ends (Raised f) st else y) go
  piece_by true f st x y go h = refl
  piece_by false f st x y go h = h

  pieces_by : (o : Outcome H) (finish : List ℕ → Meaning H) (ms : List (Meaning H)) (text path : List ℕ) → ((more : List ℕ) (st : State H) → in_word finish ms more path st ≡ then_value (in_word told ms more path st) (λ v t. finish v path t))
      → then_value o (after_piece (in_word finish ms) text path) ≡ then_value (then_value o (after_piece (in_word told ms) text path)) (λ v t. finish v path t)
  pieces_by (Ends (Value v) st) finish ms text path h =
      piece_by (nat_lt text_limit (length (text ++ v))) too_long st (in_word finish ms (text ++ v) path st) (in_word told ms (text ++ v) path st) (λ v t. finish v path t) (h (text ++ v) st)
  pieces_by other finish ms text path h = refl

  told_then : (finish : List ℕ → Meaning H) (ms : List (Meaning H)) (text path : List ℕ) (st : State H) → in_word finish ms text path st ≡ then_value (in_word told ms text path st) (λ v t. finish v path t)
  told_then finish [] text path st = refl
  told_then finish (m ∷ ms) text path st = pieces_by (m path st) finish ms text path (λ more u. told_then finish ms more path u)

  pub word_made : (finish : List ℕ → Meaning H) (ms : List (Meaning H)) (e : End) (r : Result (Unit {0}) Halted) {b mid : Stand H} → r ≡ ended e → Ran true (in_word told ms []) b e mid
      → Went true (in_word finish ms []) b r e (λ u. finish (value_in e)) mid
  word_made finish ms e (Ok u) {b = b} value ran =
      goes_by (λ end last r path c a. rw (told_then finish ms [] path (from b c a)) (((valued true (λ q v. finish v q) e (Ok u) value ran).closes end last r).by path c a))
  word_made finish ms e (Err h) {b = b} none ran =
      record { by = λ path c a. rw (told_then finish ms [] path (from b c a)) ((valued true (λ q v. finish v q) e (Err h) none ran).by path c a) }
