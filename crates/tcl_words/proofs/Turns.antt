-- The turns of a sequence, and lists that grow at their end.
use Rattle.std.proofs.Common.{◌≡◌, ℕ, ◌<◌, ◌≤◌, List, [], ◌∷◌, ◌++◌, length, Bool, true, false}
use Rattle.std.proofs.Common.{refl, ap, map}
use Rattle.tcl_words.specs.Faults.{to}
use Rattle.tcl_words.specs.Places.{closes, ends_command, ends_script}
use Rattle.tcl_words.specs.Reading.{Level, read_part, parts, read_word, words, read_command}
use Rattle.tcl_words.specs.Reading.{commands}
use Rattle.tcl_words.specs.Skips.{blanks_end, gap_end}
use Rattle.tcl_words.specs.Tree.{Parts, no_parts, and_part, Words, no_words, and_word, Commands}
use Rattle.tcl_words.specs.Tree.{no_commands, and_command}
use Rattle.tcl_words.specs.View.{part_view, word_view, command_view, parts_view, words_view}
use Rattle.tcl_words.specs.View.{commands_of}
use Rattle.tcl_words.specs.declared.places.Closer.{Closer}
use Rattle.tcl_words.specs.declared.progress.Progress.{Progress}
use Rattle.tcl_words.specs.declared.script.ScriptCommand as code_command
use Rattle.tcl_words.specs.declared.script.Part as code
use Rattle.tcl_words.specs.declared.script.Word as code_word
use Rattle.tcl_words.proofs.Many.{ManyTo, many_begins, many_turn, many_ends}

abbrev parts_before : List code.Part → Parts → Parts
parts_before [] rest = rest
parts_before (p ∷ ps) rest = and_part (part_view p) (parts_before ps rest)

all_parts : (ps : List code.Part) → parts_before ps no_parts ≡ parts_view ps
all_parts [] = refl
all_parts (p ∷ ps) = ap (and_part (part_view p)) (all_parts ps)

push_part : (ps : List code.Part) (p : code.Part) (rest : Parts)
    → parts_before ps (and_part (part_view p) rest) ≡ parts_before (ps ++ p ∷ []) rest
push_part [] p rest = refl
push_part (q ∷ ps) p rest = ap (and_part (part_view q)) (push_part ps p rest)

abbrev words_before : List code_word.Word → Words → Words
words_before [] rest = rest
words_before (w ∷ ws) rest = and_word (word_view w) (words_before ws rest)

all_words : (ws : List code_word.Word) → words_before ws no_words ≡ words_view ws
all_words [] = refl
all_words (w ∷ ws) = ap (and_word (word_view w)) (all_words ws)

push_word : (ws : List code_word.Word) (w : code_word.Word) (rest : Words)
    → words_before ws (and_word (word_view w) rest) ≡ words_before (ws ++ w ∷ []) rest
push_word [] w rest = refl
push_word (v ∷ ws) w rest = ap (and_word (word_view v)) (push_word ws w rest)

abbrev commands_before : List code_command.ScriptCommand → Commands → Commands
commands_before [] rest = rest
commands_before (c ∷ cs) rest = and_command (command_view c) (commands_before cs rest)

all_commands : (cs : List code_command.ScriptCommand)
    → commands_before cs no_commands ≡ commands_of (map command_view cs)
all_commands [] = refl
all_commands (c ∷ cs) = ap (and_command (command_view c)) (all_commands cs)

push_command : (cs : List code_command.ScriptCommand) (c : code_command.ScriptCommand) (rest : Commands)
    → commands_before cs (and_command (command_view c) rest) ≡ commands_before (cs ++ c ∷ []) rest
push_command [] c rest = refl
push_command (b ∷ cs) c rest = ap (and_command (command_view b)) (push_command cs c rest)

-- the parts so far
pub record PartsTo (deeper : Level) (closer : Closer) (text : List ℕ) (from : Progress) (ps : List code.Part) (s : Progress) : Type 0 where
  pub holds : ManyTo (λ x. x) (λ x. closes closer text x.at) (read_part deeper closer text) and_part no_parts text from (parts_before ps) s

pub parts_begin : (deeper : Level) (closer : Closer) (text : List ℕ) (s : Progress)
    → PartsTo deeper closer text s [] s
parts_begin deeper closer text s = record {
  holds = many_begins _ _ _ _ _ text s (parts_before []) (λ b. refl);
}

pub parts_turn : (deeper : Level) (closer : Closer) (text : List ℕ) (from s s2 : Progress) (ps : List code.Part) (p : code.Part)
    → s.at ≤ length text → closes closer text s.at ≡ false
    → read_part deeper closer text s ≡ (part_view p, s2) → s.at < s2.at
    → PartsTo deeper closer text from ps s → PartsTo deeper closer text from (ps ++ p ∷ []) s2
parts_turn deeper closer text from s s2 ps p within going is on so_far = record {
  holds = many_turn (λ x. x) (λ x. closes closer text x.at) (read_part deeper closer text) and_part
      no_parts text from s s s2 (parts_before ps) (parts_before (ps ++ p ∷ [])) (part_view p) within
      refl going is on (push_part ps p) so_far.holds;
}

pub parts_end : (deeper : Level) (closer : Closer) (text : List ℕ) (from s : Progress) (ps : List code.Part)
    → s.at ≤ length text → closes closer text s.at ≡ true → PartsTo deeper closer text from ps s
    → parts deeper closer text from ≡ (parts_view ps, s)
unfolding parts
parts_end deeper closer text from s ps within ends so_far =
    many_ends (λ x. x) (λ x. closes closer text x.at) (read_part deeper closer text) and_part no_parts
    text from s (parts_before ps) (parts_view ps) within ends (all_parts ps) so_far.holds

-- the words so far
pub record WordsTo (deeper : Level) (inside : Bool) (text : List ℕ) (from : Progress) (ws : List code_word.Word) (s : Progress) : Type 0 where
  pub holds : ManyTo (λ x. to (blanks_end text x.at) x) (λ x. ends_command inside text x.at) (read_word deeper inside text) and_word no_words text from (words_before ws) s

pub words_begin : (deeper : Level) (inside : Bool) (text : List ℕ) (s : Progress)
    → WordsTo deeper inside text s [] s
words_begin deeper inside text s = record {
  holds = many_begins _ _ _ _ _ text s (words_before []) (λ b. refl);
}

pub words_turn : (deeper : Level) (inside : Bool) (text : List ℕ) (from s s1 s2 : Progress) (ws : List code_word.Word) (w : code_word.Word)
    → s.at ≤ length text → to (blanks_end text s.at) s ≡ s1
    → ends_command inside text s1.at ≡ false
    → read_word deeper inside text s1 ≡ (word_view w, s2) → s.at < s2.at
    → WordsTo deeper inside text from ws s → WordsTo deeper inside text from (ws ++ w ∷ []) s2
words_turn deeper inside text from s s1 s2 ws w within is1 going is on so_far = record {
  holds = many_turn (λ x. to (blanks_end text x.at) x) (λ x. ends_command inside text x.at)
      (read_word deeper inside text) and_word no_words text from s s1 s2 (words_before ws)
      (words_before (ws ++ w ∷ [])) (word_view w) within is1 going is on (push_word ws w)
      so_far.holds;
}

pub words_end : (deeper : Level) (inside : Bool) (text : List ℕ) (from s : Progress) (ws : List code_word.Word)
    → s.at ≤ length text → ends_command inside text (blanks_end text s.at) ≡ true
    → WordsTo deeper inside text from ws s → words deeper inside text from ≡ (words_view ws, s)
unfolding words
words_end deeper inside text from s ws within ends so_far =
    many_ends (λ x. to (blanks_end text x.at) x) (λ x. ends_command inside text x.at)
    (read_word deeper inside text) and_word no_words text from s (words_before ws) (words_view ws)
    within ends (all_words ws) so_far.holds

-- the commands so far
pub record CommandsTo (deeper : Level) (inside : Bool) (text : List ℕ) (from : Progress) (cs : List code_command.ScriptCommand) (s : Progress) : Type 0 where
  pub holds : ManyTo (λ x. to (gap_end text x.at) x) (λ x. ends_script inside text x.at) (read_command deeper inside text) and_command no_commands text from (commands_before cs) s

pub commands_begin : (deeper : Level) (inside : Bool) (text : List ℕ) (s : Progress)
    → CommandsTo deeper inside text s [] s
commands_begin deeper inside text s = record {
  holds = many_begins _ _ _ _ _ text s (commands_before []) (λ b. refl);
}

pub commands_turn : (deeper : Level) (inside : Bool) (text : List ℕ) (from s s1 s2 : Progress) (cs : List code_command.ScriptCommand) (c : code_command.ScriptCommand)
    → s.at ≤ length text → to (gap_end text s.at) s ≡ s1 → ends_script inside text s1.at ≡ false
    → read_command deeper inside text s1 ≡ (command_view c, s2) → s.at < s2.at
    → CommandsTo deeper inside text from cs s
    → CommandsTo deeper inside text from (cs ++ c ∷ []) s2
commands_turn deeper inside text from s s1 s2 cs c within is1 going is on so_far = record {
  holds = many_turn (λ x. to (gap_end text x.at) x) (λ x. ends_script inside text x.at)
      (read_command deeper inside text) and_command no_commands text from s s1 s2
      (commands_before cs) (commands_before (cs ++ c ∷ [])) (command_view c) within is1 going is on
      (push_command cs c) so_far.holds;
}

pub commands_end : (deeper : Level) (inside : Bool) (text : List ℕ) (from s : Progress) (cs : List code_command.ScriptCommand)
    → s.at ≤ length text → ends_script inside text (gap_end text s.at) ≡ true
    → CommandsTo deeper inside text from cs s
    → commands deeper inside text from ≡ (commands_of (map command_view cs), s)
unfolding commands
commands_end deeper inside text from s cs within ends so_far =
    many_ends (λ x. to (gap_end text x.at) x) (λ x. ends_script inside text x.at)
    (read_command deeper inside text) and_command no_commands text from s (commands_before cs)
    (commands_of (map command_view cs)) within ends (all_commands cs) so_far.holds
