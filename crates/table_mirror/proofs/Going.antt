-- How far the lines of a plan were followed.
use Rattle.std.proofs.Common.{◌≡◌, ◌∙◌, ℕ, suc, ◌+◌, ◌<◌, ◌≤◌, Bor, List, [], ◌∷◌, Option, Some, None, Result, Ok, Err, ap, arith, drop, get_or, length, map, refl, subst, sym, take, ◌++◌, ◌-◌}
use Rattle.std.specs.Prelude.{◌==◌, Bool, true, false, IfOk}
use Rattle.std.proofs.lemmas.Bool.Decides.{Decides-eqb}
use Rattle.std.proofs.lemmas.List.{drop_all, drop_more, get_or-map, length-map, take_all, take_more}
use Rattle.std.proofs.lemmas.List.Splits.{length-slice_split}
use Rattle.std.specs.List.{slice_split}
use Rattle.journal_value.specs.Journal.{is_lf}
use Rattle.journal_text.specs.declared.line_kind.LineKind.TheVariants as kind
use Rattle.journal_text.specs.declared.line_kind.LineKind.{LineKind}
use Rattle.table_mirror.specs.Network.{World, at_first}
use Rattle.table_mirror.specs.Outcomes.{ComesTo, Ends, Goes, GoesOn, followed, mirrored_text}
use Rattle.table_mirror.specs.Plans.{Reads}
use Rattle.table_mirror.specs.Pushed.{Entry}
use Rattle.table_mirror.specs.Runs.{CameTo, Followed}
use Rattle.table_mirror.specs.Worlds.{Shows}
use Rattle.table_mirror.specs.declared.network.Network.{Network}
use Rattle.table_mirror.specs.declared.outcome.MirrorOutcome.{MirrorOutcome}
use Rattle.table_mirror.specs.declared.outcome.MirrorOutcome.TheVariants.{Mirrored, Faulty}
use Rattle.table_mirror.specs.declared.plan.PlanLine.{PlanLine}

-- so many lines were followed: what the others come to from there is what all come to
pub record Front (limit : ℕ) (entries : List Entry) (lines : List (List ℕ)) (rest : List ℕ) (at : ℕ) (w : World) (new : Network) : Type 0 where
  pub after : World
  pub shows : Shows limit entries new after
  pub goes : (outcome : MirrorOutcome) → Goes limit entries (at + 1) (drop at lines) rest after outcome
      → Goes limit entries 1 lines rest w outcome

abbrev pub Gone : List Entry → List (List ℕ) → List ℕ → ℕ → Network → Network → Type 0
Gone entries lines rest at old new = (limit : ℕ) (w : World) → Shows limit entries old w → Front limit entries lines rest at w new

pub none_gone : (entries : List Entry) (lines : List (List ℕ)) (rest : List ℕ) (n : Network) → Gone entries lines rest 0 n n
none_gone entries lines rest n limit w shows = record { after = w; shows = shows; goes = λ outcome g. g }

module _ (entries : List Entry) (lines : List (List ℕ)) (rest : List ℕ) (at : ℕ) (old now new : Network) (line : List ℕ) (more : List (List ℕ)) where
  -- the plan ended at a line
  pub ends_there : (outcome : MirrorOutcome) → drop at lines ≡ line ∷ more → Gone entries lines rest at old now
      → ((limit : ℕ) (w : World) → Shows limit entries now w → Followed limit entries (at + 1) line w new (Some outcome))
      → (limit : ℕ) (w : World) → Shows limit entries old w → Goes limit entries 1 lines rest w outcome
  ends_there outcome is gone line_is limit w shows =
      let f = gone limit w shows in
      let l = line_is limit f.after f.shows in
      f.goes outcome (subst (λ ls. Goes limit entries (at + 1) ls rest f.after outcome) (sym is) (l.0, l.1, by _ (followed limit entries (at + 1) l.0 f.after) l.2))
    where
      by : (goes : World → Type 0) (came : Result World MirrorOutcome) → CameTo limit entries new (Some outcome) came → GoesOn came goes outcome
      by goes (Err due) c = c
      by goes (Ok after) c = absurd c

  -- one more was followed
  pub one_gone : drop at lines ≡ line ∷ more → more ≡ drop (at + 1) lines → Gone entries lines rest at old now
      → ((limit : ℕ) (w : World) → Shows limit entries now w → Followed limit entries (at + 1) line w new None)
      → Gone entries lines rest (at + 1) old new
  one_gone is behind gone line_is limit w shows =
      let f = gone limit w shows in
      let l = line_is limit f.after f.shows in
      by (followed limit entries (at + 1) l.0 f.after) refl l.2
    where
      by : (came : Result World MirrorOutcome) → followed limit entries (at + 1) (line_is limit (gone limit w shows).after (gone limit w shows).shows).0 (gone limit w shows).after ≡ came
          → CameTo limit entries new None came → Front limit entries lines rest (at + 1) w new
      by (Err due) e c = absurd c
      by (Ok after) e c =
          let f = gone limit w shows in
          let l = line_is limit f.after f.shows in
          record {
            after = after;
            shows = c;
            goes = λ outcome g.
                f.goes outcome (subst (λ ls. Goes limit entries (at + 1) ls rest f.after outcome) (sym is) (
                  l.0,
                  l.1,
                  subst (λ came. GoesOn came (λ next. Goes limit entries (at + 1 + 1) more rest next outcome) outcome) (sym e)
                      (subst (λ ls. Goes limit entries (at + 1 + 1) ls rest after outcome) (sym behind) g),
                ));
          }

-- ---- as the lines are seen

abbrev seen : List (Bor (List ℕ)) → List (List ℕ)
seen lines = map (λ line. line.now) lines

cut : (lines : List (Bor (List ℕ))) (at : ℕ) (d : Bor (List ℕ)) → at < length lines
    → drop at (seen lines) ≡ (get_or lines at d).now ∷ drop (at + 1) (seen lines)
cut lines at d within =
    let fewer : at < length (seen lines) = let same = length-map lines (λ (line : Bor (List ℕ)). line.now) in omega (arith, same, within) in
    drop_more (seen lines) at [] fewer ∙ ap (λ line. line ∷ drop (at + 1) (seen lines)) (get_or-map (λ (line : Bor (List ℕ)). line.now) lines at d [] within)

module _ (entries : List Entry) (lines : List (Bor (List ℕ))) (rest : List ℕ) (at : ℕ) (old now new : Network) (d : Bor (List ℕ)) where
  pub ends_at : (ended : Option MirrorOutcome) (outcome : MirrorOutcome) → ended ≡ Some outcome → at < length lines → Gone entries (seen lines) rest at old now
      → ((limit : ℕ) (w : World) → Shows limit entries now w → Followed limit entries (at + 1) (get_or lines at d).now w new ended)
      → (limit : ℕ) (w : World) → Shows limit entries old w → Goes limit entries 1 (seen lines) rest w outcome
  ends_at ended outcome is within gone line_is =
      ends_there entries (seen lines) rest at old now new (get_or lines at d).now (drop (at + 1) (seen lines)) outcome (cut lines at d within) gone
      (λ limit w shows. subst (Followed limit entries (at + 1) (get_or lines at d).now w new) is (line_is limit w shows))

  pub goes_at : (ended : Option MirrorOutcome) → ended ≡ None → at < length lines → Gone entries (seen lines) rest at old now
      → ((limit : ℕ) (w : World) → Shows limit entries now w → Followed limit entries (at + 1) (get_or lines at d).now w new ended)
      → Gone entries (seen lines) rest (at + 1) old new
  goes_at ended is within gone line_is =
      one_gone entries (seen lines) rest at old now new (get_or lines at d).now (drop (at + 1) (seen lines)) (cut lines at d within) refl gone
      (λ limit w shows. subst (Followed limit entries (at + 1) (get_or lines at d).now w new) is (line_is limit w shows))

-- all lines were followed
module _ (entries : List Entry) (lines : List (Bor (List ℕ))) (rest : List ℕ) (at : ℕ) (old now : Network) where
  abbrev Due : MirrorOutcome → Type 0
  Due outcome = (limit : ℕ) (w : World) → Shows limit entries old w → Goes limit entries 1 (seen lines) rest w outcome

  pub all_gone : (outcome : MirrorOutcome) → length lines ≤ at → Gone entries (seen lines) rest at old now
      → ((limit : ℕ) (w : World) → Shows limit entries now w → Ends limit entries (at + 1) rest w outcome) → Due outcome
  all_gone outcome over gone ends limit w shows =
      let f = gone limit w shows in
      let same = length-map lines (λ (line : Bor (List ℕ)). line.now) in
      let none = drop_all at (seen lines) (omega (arith, same, over)) in
      f.goes outcome (subst (λ ls. Goes limit entries (at + 1) ls rest f.after outcome) (sym none) (ends limit f.after f.shows))

  -- nothing stands behind the last LF
  pub all_whole : {E : Type 0} (r : Result MirrorOutcome E) → length lines ≤ at → Gone entries (seen lines) rest at old now → rest ≡ []
      → IfOk r (λ outcome. (limit : ℕ) (es : List Entry) (w : World) → Shows limit es now w → outcome ≡ Mirrored (mirrored_text limit es w))
      → IfOk r Due
  all_whole (Err e) over gone none tells = _
  all_whole (Ok outcome) over gone none tells =
      all_gone outcome over gone (λ limit w shows. subst (λ rest. Ends limit entries (at + 1) rest w outcome) (sym none) (tells limit entries w shows))

  -- something does
  pub all_but : (line : ℕ) → line ≡ at + 1 → length lines ≤ at → Gone entries (seen lines) rest at old now → ¬ (rest ≡ [])
      → Due (Faulty line kind.NoNewline)
  all_but line is over gone some =
      all_gone (Faulty line kind.NoNewline) over gone (λ limit w shows. by limit w rest some (ap (λ n. Faulty n kind.NoNewline) is))
    where
      by : (limit : ℕ) (w : World) (rest : List ℕ) → ¬ (rest ≡ []) → Faulty line kind.NoNewline ≡ Faulty (at + 1) kind.NoNewline → Ends limit entries (at + 1) rest w (Faulty line kind.NoNewline)
      by limit w [] some same = absurd (some refl)
      by limit w (byte ∷ more) some same = same

-- ---- the lines of a plan, and what stands behind the last LF

last_cut : (xs : List (Bor (List ℕ))) (d : Bor (List ℕ)) → 1 ≤ length xs
    → xs ≡ take (length xs - 1) xs ++ get_or xs (length xs - 1) d ∷ []
last_cut xs d some =
    let same : length xs - 1 + 1 ≡ length xs = omega (arith, some) in
    sym (take_all (length xs) xs (omega arith)) ∙ ap (λ n. take n xs) (sym same) ∙ take_more xs (length xs - 1) d (omega (arith, some))

seen_behind : (xs : List (Bor (List ℕ))) (x : Bor (List ℕ)) → seen (xs ++ x ∷ []) ≡ seen xs ++ x.now ∷ []
seen_behind [] x = refl
seen_behind (y ∷ xs) x = ap (λ ls. y.now ∷ ls) (seen_behind xs x)

pub parts_cut : (parts : List (Bor (List ℕ))) (d : Bor (List ℕ)) (plan : List ℕ) → 1 ≤ length parts → seen parts ≡ slice_split is_lf plan
    → slice_split is_lf plan ≡ seen (take (length parts - 1) parts) ++ (get_or parts (length parts - 1) d).now ∷ []
parts_cut parts d plan some is =
    sym is ∙ ap seen (last_cut parts d some) ∙ seen_behind (take (length parts - 1) parts) (get_or parts (length parts - 1) d)

pub no_parts : (parts : List (Bor (List ℕ))) (plan : List ℕ) → length parts < 1 → seen parts ≡ slice_split is_lf plan → ⊥
no_parts parts plan short is =
    let count = length-slice_split is_lf plan in
    let same = length-map parts (λ (line : Bor (List ℕ)). line.now) in
    let all = ap length is in
    omega (arith, count, same, all, short)

pub plan_comes : {E : Type 0} (r : Result MirrorOutcome E) (limit : ℕ) (entries : List Entry) (plan : List ℕ) (lines : List (List ℕ)) (rest : List ℕ) (n : Network)
    → slice_split is_lf plan ≡ lines ++ rest ∷ [] → Shows limit entries n at_first
    → IfOk r (λ outcome. (limit : ℕ) (w : World) → Shows limit entries n w → Goes limit entries 1 lines rest w outcome)
    → IfOk r (ComesTo limit entries plan)
plan_comes (Err e) limit entries plan lines rest n parts shows goes = _
plan_comes (Ok outcome) limit entries plan lines rest n parts shows goes =
    record { lines = lines; rest = rest; parts = parts; goes = goes limit at_first shows }

-- ---- an empty rest

pub empty_by : (b : Bool) (xs : List ℕ) → b ≡ (length xs == 0) → b ≡ true → xs ≡ []
empty_by b [] is so = refl
empty_by b (x ∷ xs) is so = let h = (Decides-eqb (length (x ∷ xs)) 0).0 (sym is ∙ so) in absurd (omega (arith, h))

pub some_by : (b : Bool) (xs : List ℕ) → b ≡ (length xs == 0) → b ≡ false → ¬ (xs ≡ [])
some_by b xs is not none =
    let h = (Decides-eqb (length xs) 0).1 (ap length none) in
    let k = sym not ∙ is ∙ h in
    cc
