-- What is said at the end, of what all tests come to.
use Rattle.std.proofs.Common.{arith, ◌≡◌, ℕ, Bool, true, false, List, [], ◌++◌, Option, Some, Result, Ok, Err, IfOk, IfErr, OnOk, subst, sym, ◌∙◌, ap}
use Rattle.px_outside.specs.Outside.{told_more}
use Rattle.test_report.specs.Report.{report_text}
use Rattle.test_report.specs.declared.result.TestResult.{TestResult}
use Rattle.test_words.specs.declared.words.TestWords.{TestWords}
use Rattle.tested_runs.specs.declared.source.TestSource.{TestSource}
use Rattle.tested_runs.specs.declared.stop.TestStop.{TestStop}
use Rattle.tested_runs.specs.declared.stop.TestStop.TheVariants as stop
use Rattle.rule_tests.specs.Results.{Adds, AreResults, Reported, chosen_of}
use Rattle.rule_tests.specs.Tests.{AreSources, Ends, SourcesCome}
use Rattle.rule_tests.specs.Told.{FilesCome, Quiet, SaysEnd, TellsFiles, Tested, TestedAs, ToldFile}

abbrev Told : Type 0
Told = List ℕ → Option (List ℕ)

-- the results are those that were added to none
pub reports : (told : Told) (words : TestWords) (sources : List TestSource) (r : Result Bool TestStop)
    (results new : List TestResult) (before after old now : Option (List ℕ)) → results ≡ []
    → OnOk r (Adds told words (chosen_of words sources) results new before after)
    → OnOk r (now ≡ told_more old (report_text words.shape new)) → OnOk r (Reported told words sources before after old now)
reports told words sources (Err why) results new before after old now none adds written = tt
reports told words sources (Ok passed) results new before after old now none adds written = record {
  results = new;
  are = subst (λ (rs : List TestResult). AreResults told words (chosen_of words sources) rs before after)
      (sym (adds.new_is ∙ ap (λ (rs : List TestResult). rs ++ adds.more) none)) adds.are;
  written = written;
}

-- of the files that were read
pub files_come : (told now : Told) (words : TestWords) (sources : List TestSource) (r : Result Bool TestStop)
    (before after old new : Option (List ℕ)) → now ≡ told → AreSources told words.files sources
    → IfOk r (λ passed. SourcesCome now words passed sources) → OnOk r (Reported now words sources before after old new)
    → IfOk r (FilesCome told words before after old new)
files_come told now words sources (Err why) before after old new same are come reported = tt
files_come told now words sources (Ok passed) before after old new same are come reported = record {
  sources = sources;
  are_sources = are;
  comes = subst (λ (t : Told). SourcesCome t words passed sources) same come;
  reported = subst (λ (t : Told). Reported t words sources before after old new) same reported;
}

-- the status
by_stop : (told : Told) (words : TestWords) (why : TestStop) (old mid new : Option (List ℕ)) → TellsFiles told words why
    → Quiet old mid why → SaysEnd (Err why) mid new → ToldFile told words old new
by_stop told words (stop.File line) old mid new tells quiet says = record {
  line = line;
  tells = tells;
  written = says ∙ ap (λ (o : Option (List ℕ)). told_more o line) quiet;
}
by_stop told words (stop.Config line) old mid new tells quiet says = absurd says
by_stop told words stop.Read old mid new tells quiet says = absurd says
by_stop told words stop.Write old mid new tells quiet says = absurd says
by_stop told words stop.Memory old mid new tells quiet says = absurd says

tested_as : (told : Told) (words : TestWords) (r : Result Bool TestStop) (status : ℕ) (before after old mid new : Option (List ℕ))
    → IfOk r (FilesCome told words before after old mid) → IfErr r (TellsFiles told words) → IfErr r (Quiet old mid) → Ends r status
    → (status ≡ 11 → SaysEnd r mid new) → IfOk r (λ passed. new ≡ mid) → TestedAs told words status before after old new
tested_as told words (Ok true) status before after old mid new come tells quiet ends says same = record {
  passed = λ is. subst (λ (o : Option (List ℕ)). FilesCome told words before after old o true) (sym same) come;
  failed = λ is. absurd (omega (arith, is, ends));
  told_file = λ is. absurd (says is);
}
tested_as told words (Ok false) status before after old mid new come tells quiet ends says same = record {
  passed = λ is. absurd (omega (arith, is, ends));
  failed = λ is. subst (λ (o : Option (List ℕ)). FilesCome told words before after old o false) (sym same) come;
  told_file = λ is. absurd (says is);
}
tested_as told words (Err why) status before after old mid new come tells quiet ends says same = record {
  passed = λ is. absurd (ends.0 is);
  failed = λ is. absurd (ends.1 is);
  told_file = λ is. by_stop told words why old mid new tells quiet (says is);
}

pub tested : (told : Told) (words : TestWords) (wanted : Option TestWords) (r : Result Bool TestStop) (status : ℕ)
    (before after old mid new : Option (List ℕ)) → Some words ≡ wanted
    → IfOk r (FilesCome told words before after old mid) → IfErr r (TellsFiles told words) → IfErr r (Quiet old mid) → Ends r status
    → (status ≡ 11 → SaysEnd r mid new) → IfOk r (λ passed. new ≡ mid) → Tested told wanted status before after old new
tested told words wanted r status before after old mid new is come tells quiet ends says same =
    subst (λ (w : Option TestWords). Tested told w status before after old new) is
    (tested_as told words r status before after old mid new come tells quiet ends says same)
