use Rattle.std.proofs.Common.{rules}
use Rattle.std.proofs.lemmas.Slice.{first_rest}
use Rattle.grammar.proofs.Spelled.{word_is}
use Rattle.grammar.proofs.spelling.is_word.Goals as goal

pub returns-then-is_ascii_alphabetic : goal.returns-then-is_ascii_alphabetic
returns-then-is_ascii_alphabetic c = word_is _ _ c.args.bytes.now c.run_length.result (first_rest c.args.bytes.now 0 (search rules)) (search rules) c.run_length.ensures
