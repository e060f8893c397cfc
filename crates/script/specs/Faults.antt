-- What a person is told of a line that cannot be read.
use Rattle.std.specs.Prelude.{ℕ, List, codes}
use Rattle.script.specs.declared.fault.Fault.{Fault}
use Rattle.script.specs.declared.fault.Fault.TheVariants.{NotText, UnknownCommand, TooFewWords, TooManyWords, NotNumber, NotWord, NotPlace, NotOneOrTwo, NoShape}

abbrev pub worded : Fault → List ℕ
worded NotText = codes "the line is not UTF-8 text"
worded UnknownCommand = codes "unknown command"
worded TooFewWords = codes "the line ends too early"
worded TooManyWords = codes "the line goes on too long"
worded NotNumber = codes "a number was expected"
worded NotWord = codes "a whole number below 2^32 was expected"
worded NotPlace = codes "a whole number in decimal digits was expected"
worded NotOneOrTwo = codes "1 or 2 was expected"
worded NoShape = codes "that shape is not there yet"
