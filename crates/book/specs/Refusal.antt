-- The number of each refusal in documents 01 and 02.
use Rattle.std.specs.Prelude.{ℕ}
use Rattle.book.specs.declared.Refusal.{Refusal}
use Rattle.book.specs.declared.Refusal.TheVariants.{ShortScratch, BadContents, CountOverLimit, FieldOutOfRange, NoForest, TooDeep, NotInBook, ReplyIsUnsat, MissingAxiom, BufferTooShort, NoOperator, NoSession, QuestionOpen, NoReplyOwed, NoModelOwed, TooDeepForNarrow, TagInBook, ForeignLine, ChecksDiffer, BadName}

unfoldable pub number : Refusal → ℕ
number ShortScratch = 1
number BadContents = 2
number CountOverLimit = 3
number FieldOutOfRange = 4
number NoForest = 5
number TooDeep = 6
number NotInBook = 7
number ReplyIsUnsat = 8
number MissingAxiom = 9
number BufferTooShort = 10
number NoOperator = 11
number NoSession = 20
number QuestionOpen = 21
number NoReplyOwed = 22
number NoModelOwed = 23
number TooDeepForNarrow = 24
number TagInBook = 25
number ForeignLine = 26
number ChecksDiffer = 27
number BadName = 28
