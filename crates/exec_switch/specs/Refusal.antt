-- The numbers of document 01's table of what a caller gets.
use Rattle.std.specs.Prelude.{ℕ}
use Rattle.exec_switch.specs.declared.answer.Refusal.{Refusal}

abbrev pub refusal_number : Refusal → ℕ
refusal_number Refusal.WrongLength = 1
refusal_number Refusal.NotSound = 2
refusal_number Refusal.SessionEnded = 3
refusal_number Refusal.WrongMoment = 4
refusal_number Refusal.Unknown = 5
refusal_number Refusal.PendingAlready = 6
refusal_number Refusal.NoRoom = 7
refusal_number Refusal.NoCallNumber = 8
refusal_number Refusal.MainCancelled = 9
refusal_number Refusal.BadResult = 10
