-- Files that are read, one more and all.
use Rattle.std.proofs.Common.{◌≡◌, ℕ, ◌+◌, ◌<◌, ◌≤◌, List, [], ◌∷◌, ◌++◌, Option, take, get_or, length, refl, sym, subst, ap, ◌∙◌}
use Rattle.std.proofs.lemmas.List.{take_all, take_more}
use Rattle.tested_runs.specs.Sources.{FileTold, IsSource, TellsSource}
use Rattle.rule_tests.specs.Tests.{AreSources, TellsSources}
use Rattle.tested_runs.specs.declared.source.TestSource.{TestSource}
use Rattle.tested_runs.specs.declared.stop.TestStop.{TestStop}
use Rattle.tested_runs.specs.declared.stop.TestStop.TheVariants as stop
use Rattle.tested_runs.proofs.Comes.{At}
use Rattle.tested_runs.proofs.Kept.{one_of}

abbrev Told : Type 0
Told = List ℕ → Option (List ℕ)

pub one_more : (told : List ℕ → Option (List ℕ)) (names : List (List ℕ)) (sources : List TestSource) (name : List ℕ)
    (source : TestSource) → AreSources told names sources → IsSource told name source
    → AreSources told (names ++ name ∷ []) (sources ++ source ∷ [])
one_more told [] [] name source are is = (is, tt)
one_more told (n ∷ names) (s ∷ sources) name source are is = (are.0, one_more told names sources name source are.1 is)
one_more told [] (s ∷ sources) name source are is = absurd are
one_more told (n ∷ names) [] name source are is = absurd are

-- a file more was read
pub one_read : (told now : Told) (names : List (List ℕ)) (i : ℕ) (name bytes : List ℕ) (sources new : List TestSource)
    (source : TestSource) → told ≡ now → At names i name → bytes ≡ name → AreSources now (take i names) sources
    → IsSource told bytes source → new ≡ sources ++ source ∷ [] → AreSources now (take (i + 1) names) new
one_read told now names i name bytes sources new source same at is before has added =
    let by_now : IsSource now bytes source = subst (λ (t : Told). IsSource t bytes source) same has in
    let named : IsSource now name source = subst (λ (n : List ℕ). IsSource now n source) is by_now in
    let more : AreSources now (take i names ++ name ∷ []) (sources ++ source ∷ []) =
    one_more now (take i names) sources name source before named in
    let taken : take (i + 1) names ≡ take i names ++ name ∷ [] =
    take_more names i name at.within ∙ ap (λ n. take i names ++ n ∷ []) (sym at.is) in
    let with_new : AreSources now (take i names ++ name ∷ []) new =
    subst (λ (ss : List TestSource). AreSources now (take i names ++ name ∷ []) ss) (sym added) more in
    subst (λ (ns : List (List ℕ)). AreSources now ns new) (sym taken) with_new

pub all_read : (now : Told) (names : List (List ℕ)) (i : ℕ) (sources : List TestSource) → length names ≤ i
    → AreSources now (take i names) sources → AreSources now names sources
all_read now names i sources end read =
    subst (λ (ns : List (List ℕ)). AreSources now ns sources) (take_all i names end) read

-- one is no test file
tells_of : (now : Told) (names : List (List ℕ)) (i : ℕ) (name : List ℕ) (why : TestStop) → At names i name
    → TellsSource now name why → TellsSources now names why
tells_of now names i name (stop.File line) at tells = one_of (λ n. FileTold now n line) names i name at tells
tells_of now names i name (stop.Config line) at tells = tt
tells_of now names i name stop.Read at tells = tt
tells_of now names i name stop.Write at tells = tt
tells_of now names i name stop.Memory at tells = tt

pub source_told : (told now : Told) (names : List (List ℕ)) (i : ℕ) (name bytes : List ℕ) (why : TestStop) → told ≡ now
    → At names i name → bytes ≡ name → TellsSource told bytes why → TellsSources now names why
source_told told now names i name bytes why same at is tells =
    tells_of now names i name why at
    (subst (λ (n : List ℕ). TellsSource now n why) is (subst (λ (t : Told). TellsSource t bytes why) same tells))
