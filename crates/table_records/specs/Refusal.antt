-- The numbers of the refusals. Assumes nothing.
use Rattle.std.specs.Prelude.{ℕ}
use Rattle.table_records.specs.declared.refusal.Fault.{Fault}
use Rattle.table_records.specs.declared.refusal.Fault.TheVariants.{TableCut, HeaderRange, TableRange, TableLong, ConstantAboveBound, ClockBreaksBound, ListCut, ListRange, ListLong, EdgeFromElsewhere, GuardFails, ValueNotAllowed, EndNotFinal, RowsNotAscending, RowFinal, InitialRowMissing, NextRowMissing, EdgeUnknown, BufferShort, NoRoom, FinalEntered}

-- "Why a file is refused": document 01's number
abbrev pub number_of : Fault → ℕ
number_of TableCut = 1
number_of HeaderRange = 2
number_of TableRange = 3
number_of TableLong = 4
number_of ConstantAboveBound = 5
number_of ClockBreaksBound = 6
number_of ListCut = 7
number_of ListRange = 8
number_of ListLong = 9
number_of EdgeFromElsewhere = 10
number_of GuardFails = 11
number_of ValueNotAllowed = 12
number_of EndNotFinal = 13
number_of RowsNotAscending = 14
number_of RowFinal = 15
number_of InitialRowMissing = 16
number_of NextRowMissing = 17
number_of EdgeUnknown = 18
number_of BufferShort = 19
number_of NoRoom = 20
number_of FinalEntered = 21
