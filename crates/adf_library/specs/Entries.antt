-- Which of two nodes refuses a call first: each test at entry is made for both before the next.
use Rattle.std.specs.Prelude.{ℕ, nat_lt, Result, Ok, Err, if◌then◌else◌}
use Rattle.adf_model.specs.declared.error.AdfError.{AdfError}
use Rattle.adf_model.specs.declared.error.AdfError.TheVariants.{NotOpen, NoSuchFile}

-- the number of the test at entry that refuses; behind all tests where none does
abbrev pub test_number : Result Unit AdfError → ℕ
test_number (Err NoSuchFile) = 0
test_number (Err NotOpen) = 1
test_number (Err AdfError.Broken) = 2
test_number (Err error) = 3
test_number (Ok done) = 4

-- what is answered of two nodes, of which each is answered so
abbrev pub first_of : Result Unit AdfError → Result Unit AdfError → Result Unit AdfError
first_of one other = if nat_lt (test_number other) (test_number one) then other else one
