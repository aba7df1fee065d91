-- The nodes on which a body stands.
use Rattle.std.proofs.Common.{◌≡◌, refl, ap, ◌∙◌, ℕ, zero, suc, ◌+◌, ◌-◌, ◌<◌, ◌≤◌, List, [], ◌∷◌, ◌++◌, length, get_or, take, drop, Bool, true, false, arith}
use Rattle.std.proofs.Math.Seq.{take-append_seam}
use Rattle.std.proofs.lemmas.List.{length-append, length-take, take-append-drop, take_more}
use Rattle.tcl_trees.specs.Procedures.{Procedure}
use Rattle.tcl_trees.specs.Tree.{Tree}
use Rattle.tcl_trees.specs.TreeView.{node_view}
use Rattle.frames.specs.Frames.{full_room, inside, room_above, tree_above}
use Rattle.frames.specs.Moves.{list_of}
use Rattle.frame_machine.specs.Places.{inner_tree, wants_above}
use Rattle.frame_machine.specs.Walks.{Enters, Follows, Grown, Leads, OnTheWay, Spot, root_spot, spot_above, spot_in, spot_of}
use Rattle.frames.specs.declared.frame.Frame.{Frame}
use Rattle.frames.specs.declared.frame.Frame.TheVariants as frame
use Rattle.frame_machine.specs.declared.place.Place.{Place}
use Rattle.frame_machine.specs.declared.place.Waypoint.{Waypoint}
use Rattle.frame_machine.specs.declared.walk.Walk.{Walk}

-- a frame that owns no tree, and calls no procedure
abbrev pub IsInner : Frame → Type 0
IsInner (frame.Called n r w) = ⊥
IsInner (frame.Read t r) = ⊥
IsInner f = Unit {0}

pub inner_is : (ps : List Procedure) (t : Tree) (f : Frame) → IsInner f → inner_tree t f ≡ inside ps t f
inner_is ps t (frame.Called n r w) h = absurd h
inner_is ps t (frame.Read e r) h = absurd h
inner_is ps t other h = refl

module _ (ps : List Procedure) where
  -- the node above all frames, in its three parts
  above_tree : (s : Spot) (fs : List Frame) → (spot_above ps s fs).tree ≡ tree_above ps s.tree fs
  above_tree s [] = refl
  above_tree s (f ∷ fs) = above_tree (spot_in ps s f) fs

  above_room : (s : Spot) (fs : List Frame) → (spot_above ps s fs).room ≡ room_above s.room fs
  above_room s [] = refl
  above_room s (f ∷ fs) = above_room (spot_in ps s f) fs

  above_wanted : (s : Spot) (fs : List Frame) → (spot_above ps s fs).wanted ≡ wants_above s.wanted fs
  above_wanted s [] = refl
  above_wanted s (f ∷ fs) = above_wanted (spot_in ps s f) fs

  -- a place above all frames
  pub record Located (t : Tree) (fs : List Frame) (p : Place) : Type 0 where
    pub node : node_view p.node.now ≡ tree_above ps t fs
    pub room : p.room ≡ room_above full_room fs
    pub wanted : p.wanted ≡ wants_above true fs

  pub located : (t : Tree) (fs : List Frame) (p : Place) → spot_of p ≡ spot_above ps (root_spot t) fs → Located t fs p
  located t fs p e = record {
    node = ap (λ s. s.tree) e ∙ above_tree (root_spot t) fs;
    room = ap (λ s. s.room) e ∙ above_room (root_spot t) fs;
    wanted = ap (λ s. s.wanted) e ∙ above_wanted (root_spot t) fs;
  }

  pub short : (s : Spot) (fs : List Frame) (xs : List Place) (top : Place) → Leads ps s fs xs top → length xs ≤ length fs
  short s fs [] top h = omega arith
  short s [] (x ∷ xs) top h = absurd h
  short s (f ∷ fs) (x ∷ xs) top h = let k = short (spot_in ps s f) fs xs top h.1 in omega (arith, k)

  same : (s : Spot) (fs : List Frame) (xs : List Place) (top : Place) → Leads ps s fs xs top → spot_above ps (spot_of top) (drop (length xs) fs) ≡ spot_above ps s fs
  same s fs [] top h = ap (λ x. spot_above ps x fs) h
  same s [] (x ∷ xs) top h = absurd h
  same s (f ∷ fs) (x ∷ xs) top h = same (spot_in ps s f) fs xs top h.1

  pub on_the_way : (t : Tree) (fs : List Frame) (w : Walk) (from : Waypoint) → from.place ≡ w.top → from.passed ≡ length w.below.items → Follows ps t fs w → OnTheWay ps t fs from
  on_the_way t fs w from e l h = record {
    short = rw l (short (root_spot t) fs w.below.items w.top h);
    same = rw (e, l) (same (root_spot t) fs w.below.items w.top h);
  }

  -- more frames, and fewer
  pub more : (s : Spot) (fs gs : List Frame) (xs : List Place) (top : Place) → Leads ps s fs xs top → Leads ps s (fs ++ gs) xs top
  more s fs gs [] top h = h
  more s [] gs (x ∷ xs) top h = absurd h
  more s (f ∷ fs) gs (x ∷ xs) top h = (h.0, more (spot_in ps s f) fs gs xs top h.1)

  pub fewer : (s : Spot) (n : ℕ) (fs : List Frame) (xs : List Place) (top : Place) → Leads ps s fs xs top → length xs ≤ n → Leads ps s (take n fs) xs top
  fewer s n fs [] top h l = h
  fewer s n [] (x ∷ xs) top h l = absurd h
  fewer s zero (f ∷ fs) (x ∷ xs) top h l = absurd (omega (arith, l))
  fewer s (suc n) (f ∷ fs) (x ∷ xs) top h l = (h.0, fewer (spot_in ps s f) n fs xs top h.1 (omega (arith, l)))

  -- one place more, and one fewer
  pub entered : (s : Spot) (fs : List Frame) (f : Frame) (xs : List Place) (top inner : Place) → Leads ps s fs xs top → length xs ≡ length fs → spot_of inner ≡ spot_in ps (spot_of top) f → Leads ps s (fs ++ f ∷ []) (xs ++ top ∷ []) inner
  entered s [] f [] top inner h l e = (h, e ∙ ap (λ x. spot_in ps x f) h)
  entered s (g ∷ fs) f [] top inner h l e = cc l
  entered s [] f (x ∷ xs) top inner h l e = absurd h
  entered s (g ∷ fs) f (x ∷ xs) top inner h l e = (h.0, entered (spot_in ps s g) fs f xs top inner h.1 (omega (arith, l)) e)

  pub left_one : (s : Spot) (fs : List Frame) (xs : List Place) (x top : Place) → Leads ps s fs (xs ++ x ∷ []) top → Leads ps s fs xs x
  left_one s [] [] x top h = absurd h
  left_one s (f ∷ fs) [] x top h = h.0
  left_one s [] (y ∷ ys) x top h = absurd h
  left_one s (f ∷ fs) (y ∷ ys) x top h = (h.0, left_one (spot_in ps s f) fs ys x top h.1)

-- a walk that lacks the last node at most goes on to it
pub caught_up : (ps : List Procedure) (t : Tree) (fs front : List Frame) (f : Frame) (old new : Walk) (did : Bool) → fs ≡ front ++ f ∷ [] → length old.below.items ≡ length front → Enters ps f old did new
    → Follows ps t fs old → Follows ps t fs new
caught_up ps t fs front f old new true e l w h =
    let k : length old.below.items ≤ length front = omega (arith, l) in
    rw (e, w.0) (entered ps (root_spot t) front f old.below.items old.top new.top
    (rw take-append_seam at (fewer ps (root_spot t) (length front) (front ++ f ∷ []) old.below.items old.top (rw e at h) k)) l w.1)
caught_up ps t fs front f old new false e l w h = rw w h

-- the walk along the first frames, and one more
pub record Along (ps : List Procedure) (t : Tree) (fs : List Frame) (n : ℕ) (w : Walk) : Type 0 where
  pub follows : Follows ps t (take n fs) w
  pub full : length w.below.items ≡ n

pub along_more : (ps : List Procedure) (t : Tree) (fs : List Frame) (n : ℕ) (f : Frame) (old new : Walk) → n < length fs → get_or fs n f ≡ f → Enters ps f old true new → Along ps t fs n old → Along ps t fs (n + 1) new
along_more ps t fs n f old new l e w h =
    let m = h.full in
    let k : length old.below.items ≡ length (take n fs) = omega (arith, m, l, length-take n fs) in
    let a = ap length w.0 in
    record {
      follows = rw (take_more fs n f l, e, w.0) (entered ps (root_spot t) (take n fs) f old.below.items old.top new.top h.follows k w.1);
      full = omega (arith, simp length-append at a, m);
    }

pub along_so_far : (ps : List Procedure) (t : Tree) (fs : List Frame) (n : ℕ) (old new : Walk) → new ≡ old → Along ps t fs n old → Follows ps t fs new
along_so_far ps t fs n old new e h = rw (e, ← take-append-drop n fs) (more ps (root_spot t) (take n fs) (drop n fs) old.below.items old.top h.follows)

-- the frames below the last
pub stay_back : (all fs : List Frame) (f : Frame) → all ≡ fs ++ f ∷ [] → take (length all - 1) all ≡ fs
stay_back all fs f e = rw e (let k = length-append fs (f ∷ []) in let l : length (fs ++ f ∷ []) - 1 ≡ length fs = omega (arith, k) in rw l (take-append_seam fs (f ∷ [])))

pub stays : (ps : List Procedure) (t : Tree) (all fs : List Frame) (f : Frame) (from : Waypoint) → all ≡ fs ++ f ∷ [] → OnTheWay ps t (take (length all - 1) all) from → OnTheWay ps t fs from
stays ps t all fs f from e h = rw (stay_back all fs f e) at h

-- a place that is found from a waypoint on
pub located_from : (ps : List Procedure) (t : Tree) (fs frames : List Frame) (p : Place) (from : Waypoint) → frames ≡ fs → OnTheWay ps t fs from
    → spot_of p ≡ spot_above ps (spot_of from.place) (drop from.passed frames) → Located ps t fs p
located_from ps t fs frames p from e h q = located ps t fs p (q ∙ rw e h.same)

-- a walk below the frames that stay is one below those of the next standing
pub grown_on : (ps : List Procedure) (t : Tree) (fs fs' : List Frame) (w : Walk) → Grown fs fs' → Follows ps t fs w → Follows ps t fs' w
grown_on ps t fs fs' w g h = rw g.1 (more ps (root_spot t) fs (list_of g.0) w.below.items w.top h)
