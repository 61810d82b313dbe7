use Rattle.separation_laws.proofs.ProvedTests.{first_words}
use Rattle.separation_laws.proofs.finite_tests.first_word_law.Goals as goal

pub returns : goal.returns
returns c = first_words
