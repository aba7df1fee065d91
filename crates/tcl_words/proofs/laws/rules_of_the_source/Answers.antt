use Rattle.tcl_words.proofs.Rules.{split_nothing, white_space, quotes, brackets, separators}
use Rattle.tcl_words.proofs.Rules.{return_ordinary, keeps_bytes, keeps_backslashes}
use Rattle.tcl_words.proofs.Rules.{replaces_newlines, backslashed, newlines, continues, hashes}
use Rattle.tcl_words.proofs.Rules.{dollars, two_digits, limited, limits_indexes, limits_words}
use Rattle.tcl_words.proofs.Rules.{least_place}
use Rattle.tcl_words.proofs.laws.rules_of_the_source.Goals as goal

pub returns-clause-substitutions_split_nothing : goal.returns-clause-substitutions_split_nothing
returns-clause-substitutions_split_nothing c = split_nothing

pub returns-clause-white_space_separates : goal.returns-clause-white_space_separates
returns-clause-white_space_separates c = white_space

pub returns-clause-brackets_shield : goal.returns-clause-brackets_shield
returns-clause-brackets_shield c = λ room c d text at span script end is. is

pub returns-clause-indexes_shield : goal.returns-clause-indexes_shield
returns-clause-indexes_shield c = λ room c d text at span name index end is. is

pub returns-clause-quotes_end_at_quotes : goal.returns-clause-quotes_end_at_quotes
returns-clause-quotes_end_at_quotes c = quotes

pub returns-clause-brackets_end_words : goal.returns-clause-brackets_end_words
returns-clause-brackets_end_words c = brackets

pub returns-clause-separators_end_words : goal.returns-clause-separators_end_words
returns-clause-separators_end_words c = separators

pub returns-clause-return_is_ordinary : goal.returns-clause-return_is_ordinary
returns-clause-return_is_ordinary c = return_ordinary

pub returns-clause-braces_keep_bytes : goal.returns-clause-braces_keep_bytes
returns-clause-braces_keep_bytes c = keeps_bytes

pub returns-clause-braces_keep_backslashes : goal.returns-clause-braces_keep_backslashes
returns-clause-braces_keep_backslashes c = keeps_backslashes

pub returns-clause-braces_replace_newlines : goal.returns-clause-braces_replace_newlines
returns-clause-braces_replace_newlines c = replaces_newlines

pub returns-clause-backslashed_braces_dont_count : goal.returns-clause-backslashed_braces_dont_count
returns-clause-backslashed_braces_dont_count c = backslashed

pub returns-clause-newlines_end_comments : goal.returns-clause-newlines_end_comments
returns-clause-newlines_end_comments c = newlines

pub returns-clause-backslashes_continue_comments : goal.returns-clause-backslashes_continue_comments
returns-clause-backslashes_continue_comments c = continues

pub returns-clause-hashes_begin_comments : goal.returns-clause-hashes_begin_comments
returns-clause-hashes_begin_comments c = hashes

pub returns-clause-lone_dollars : goal.returns-clause-lone_dollars
returns-clause-lone_dollars c = dollars

pub returns-clause-last_two_digits : goal.returns-clause-last_two_digits
returns-clause-last_two_digits c = two_digits

pub returns-clause-depth_is_limited : goal.returns-clause-depth_is_limited
returns-clause-depth_is_limited c = limited

pub returns-clause-depth_limits_indexes : goal.returns-clause-depth_limits_indexes
returns-clause-depth_limits_indexes c = limits_indexes

pub returns-clause-depth_limits_words : goal.returns-clause-depth_limits_words
returns-clause-depth_limits_words c = limits_words

pub returns-clause-least_place_is_told : goal.returns-clause-least_place_is_told
returns-clause-least_place_is_told c = least_place
