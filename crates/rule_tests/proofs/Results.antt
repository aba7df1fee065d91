-- Results that are added, of one more test and of all.
use Rattle.std.proofs.Common.{◌≡◌, ℕ, ◌+◌, ◌≤◌, ◌<◌, Bool, true, false, List, [], ◌∷◌, ◌++◌, Option, Some, IfSome, IsSome, Result, Ok, Err, IfOk, OnOk}
use Rattle.std.proofs.Common.{ap, append-nil, append_assoc, flat_map, length, refl, subst, sym, take, ◌∙◌, if◌then◌else◌}
use Rattle.std.proofs.lemmas.Grind.{flat_map-append}
use Rattle.std.proofs.lemmas.List.{take_all, take_more}
use Rattle.test_report.specs.declared.result.TestResult.{TestResult}
use Rattle.test_text.specs.declared.test_file.TestCase.{TestCase}
use Rattle.test_words.specs.declared.words.TestWords.{TestWords}
use Rattle.test_plan.specs.Ways.{ways}
use Rattle.tested_runs.specs.Runs.{WaysCome, cuts_of}
use Rattle.tested_runs.specs.Schedules.{WayTold}
use Rattle.tested_runs.specs.declared.outcome.TestOutcome.{TestOutcome}
use Rattle.tested_runs.specs.declared.source.TestSource.{TestSource}
use Rattle.tested_runs.specs.declared.stop.TestStop.{TestStop}
use Rattle.rule_tests.specs.Results.{Adds, AreResults, IsPlaced, IsResult, SourceTest, chosen_in, told_schedule}
use Rattle.rule_tests.specs.Tests.{config_name, is_chosen}
use Rattle.tested_runs.proofs.Comes.{At}

abbrev Told : Type 0
Told = List ℕ → Option (List ℕ)

-- of the runs of a test
abbrev OfRun : Told → TestWords → List ℕ → TestCase → List (List (List ℕ)) → Option (List ℕ) → Bool → Type 0
OfRun told words config test orders schedule passed =
    IfSome schedule (WayTold told config test.steps (cuts_of words.cuts test.steps) orders passed)

told_as : (told : Told) (words : TestWords) (source : TestSource) (test : TestCase) (outcome : TestOutcome)
    (orders : List (List (List ℕ))) (t : TestResult) (before after : Option (List ℕ))
    → ways words.orders (length test.clients) test.steps ≡ Some orders
    → WaysCome told (config_name source test) test.steps (cuts_of words.cuts test.steps) outcome.passed orders
    → OfRun told words (config_name source test) test orders outcome.schedule outcome.passed
    → (0 < length orders → IsSome outcome.schedule) → t.passed ≡ outcome.passed → IsPlaced source test t
    → after ≡ told_schedule before outcome.schedule → IsResult told words source test t before after
told_as told words source test outcome orders t before after are come kept there passed placed written = record {
  placed = placed;
  runs = record {
    orders = orders;
    ways_are = are;
    comes = subst (λ (b : Bool). WaysCome told (config_name source test) test.steps (cuts_of words.cuts test.steps) b orders)
        (sym passed) come;
  };
  schedule = outcome.schedule;
  of_run = subst (OfRun told words (config_name source test) test orders outcome.schedule) (sym passed) kept;
  there = there;
  written = written;
}

pub result_told : (told : Told) (words : TestWords) (source : TestSource) (test : TestCase) (outcome : TestOutcome)
    (orders slice : List (List (List ℕ))) (config : List ℕ) (r : Result TestResult TestStop) (before after : Option (List ℕ))
    → config ≡ config_name source test → slice ≡ orders → ways words.orders (length test.clients) test.steps ≡ Some orders
    → WaysCome told config test.steps (cuts_of words.cuts test.steps) outcome.passed slice
    → IfSome outcome.schedule (WayTold told config test.steps (cuts_of words.cuts test.steps) slice outcome.passed)
    → (0 < length slice → IsSome outcome.schedule) → IfOk r (λ t. t.passed ≡ outcome.passed) → IfOk r (IsPlaced source test)
    → OnOk r (after ≡ told_schedule before outcome.schedule) → IfOk r (λ t. IsResult told words source test t before after)
result_told told words source test outcome orders slice config (Err why) before after named same are come kept there passed placed
    written = tt
result_told told words source test outcome orders slice config (Ok t) before after named same are come kept there passed placed
    written =
    let by_config : WaysCome told (config_name source test) test.steps (cuts_of words.cuts test.steps) outcome.passed slice =
    subst (λ (c : List ℕ). WaysCome told c test.steps (cuts_of words.cuts test.steps) outcome.passed slice) named come in
    let kept_by_config : OfRun told words (config_name source test) test slice outcome.schedule outcome.passed =
    subst (λ (c : List ℕ). OfRun told words c test slice outcome.schedule outcome.passed) named kept in
    told_as told words source test outcome orders t before after are
    (subst (WaysCome told (config_name source test) test.steps (cuts_of words.cuts test.steps) outcome.passed) same by_config)
    (subst (λ (os : List (List (List ℕ))). OfRun told words (config_name source test) test os outcome.schedule outcome.passed) same
    kept_by_config)
    (subst (λ (os : List (List (List ℕ))). 0 < length os → IsSome outcome.schedule) same there) passed placed written

are_more : (told : Told) (words : TestWords) (ts us : List SourceTest) (rs qs : List TestResult) (before mid after : Option (List ℕ))
    → AreResults told words ts rs before mid → AreResults told words us qs mid after
    → AreResults told words (ts ++ us) (rs ++ qs) before after
are_more told words [] us [] qs before mid after are more =
    subst (λ (o : Option (List ℕ)). AreResults told words us qs o after) are more
are_more told words (t ∷ ts) us (r ∷ rs) qs before mid after (one, is, are) more =
    (one, is, are_more told words ts us rs qs one mid after are more)
are_more told words [] us (r ∷ rs) qs before mid after are more = absurd are
are_more told words (t ∷ ts) us [] qs before mid after are more = absurd are

pub adds_none : (told : Told) (words : TestWords) (old : List TestResult) (before : Option (List ℕ))
    → Adds told words [] old old before before
adds_none told words old before = record { more = []; new_is = sym (append-nil old); are = refl }

adds_both : (told : Told) (words : TestWords) (ts us : List SourceTest) (old mid new : List TestResult)
    (before now after : Option (List ℕ)) → Adds told words ts old mid before now → Adds told words us mid new now after
    → Adds told words (ts ++ us) old new before after
adds_both told words ts us old mid new before now after a b = record {
  more = a.more ++ b.more;
  new_is = b.new_is ∙ ap (λ rs. rs ++ b.more) a.new_is ∙ append_assoc old a.more b.more;
  are = are_more told words ts us a.more b.more before now after a.are b.are;
}

-- a test that isn't to be run, and one that was
pub adds_other : (told : Told) (words : TestWords) (source : TestSource) (test : TestCase) (old : List TestResult)
    (before : Option (List ℕ)) → is_chosen words test ≡ false → Adds told words (chosen_in words source test) old old before before
adds_other told words source test old before other =
    subst (λ b. Adds told words (if b then record { source = source; test = test } ∷ [] else []) old old before before) (sym other)
    (adds_none told words old before)

pub adds_one : (told : Told) (words : TestWords) (source : TestSource) (test : TestCase) (r : TestResult)
    (old new : List TestResult) (before after : Option (List ℕ)) → is_chosen words test ≡ true
    → IsResult told words source test r before after → new ≡ old ++ r ∷ []
    → Adds told words (chosen_in words source test) old new before after
adds_one told words source test r old new before after chosen is added =
    subst (λ b. Adds told words (if b then record { source = source; test = test } ∷ [] else []) old new before after) (sym chosen)
    (record { more = r ∷ []; new_is = added; are = (after, is, refl) })

-- of the first of several, and one more
one_more : {X : Type 0} (f : X → List SourceTest) (xs : List X) (i : ℕ) (x : X) → At xs i x
    → flat_map f (take (i + 1) xs) ≡ flat_map f (take i xs) ++ f x
one_more f xs i x at =
    ap (flat_map f) (take_more xs i x at.within ∙ ap (λ y. take i xs ++ y ∷ []) (sym at.is))
    ∙ flat_map-append f (take i xs) (x ∷ []) ∙ ap (λ ts. flat_map f (take i xs) ++ ts) (append-nil (f x))

pub adds_next : (X : Type 0) (f : X → List SourceTest) (told now : Told) (words : TestWords) (xs : List X) (i : ℕ) (x : X)
    (old mid new : List TestResult) (before later after : Option (List ℕ)) → told ≡ now → At xs i x
    → Adds now words (flat_map f (take i xs)) old mid before later → Adds told words (f x) mid new later after
    → Adds now words (flat_map f (take (i + 1) xs)) old new before after
adds_next X f told now words xs i x old mid new before later after same at adds one =
    let by_now : Adds now words (f x) mid new later after = subst (λ (t : Told). Adds t words (f x) mid new later after) same one in
    subst (λ (ts : List SourceTest). Adds now words ts old new before after) (sym (one_more f xs i x at))
    (adds_both now words (flat_map f (take i xs)) (f x) old mid new before later after adds by_now)

pub adds_all : (X : Type 0) (f : X → List SourceTest) (now : Told) (words : TestWords) (xs : List X) (i : ℕ)
    (old new : List TestResult) (before after : Option (List ℕ)) → length xs ≤ i
    → Adds now words (flat_map f (take i xs)) old new before after → Adds now words (flat_map f xs) old new before after
adds_all X f now words xs i old new before after end adds =
    subst (λ (ys : List X). Adds now words (flat_map f ys) old new before after) (take_all i xs end) adds
