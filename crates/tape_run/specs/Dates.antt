-- The dates of labels: a character for the century, two digits for the year in it and three for the
-- day of the year.
use Rattle.std.specs.Prelude.{ℕ, ◌+◌, ◌-◌, ◌/◌, ◌%◌, ◌==◌, ◌&&◌, ◌||◌, not, nat_lt, nat_le}
use Rattle.std.specs.Prelude.{if◌then◌else◌, List, [], ◌∷◌, ◌++◌, Option, Some, None, codes}
use Rattle.std.specs.{Prelude.decimal, Prelude.length, Str.all_ascii_digits}
use Rattle.tape_label.specs.Digits.{number_of}
use Rattle.tape_run.specs.declared.survey.dates.Date.{Date}

-- the first year of a century: a space is the 20th century, a 0 the 21st
abbrev pub century : ℕ → Option ℕ
century byte = if byte == 32 then Some 1900 else if byte == 48 then Some 2000 else None

-- the number of days of each month; some years have 366 days
abbrev pub months : ℕ → List ℕ
months year = 31
    ∷ (if (year % 4 == 0) && (not (year % 100 == 0) || (year % 400 == 0)) then 29 else 28)
    ∷ 31 ∷ 30 ∷ 31 ∷ 30 ∷ 31 ∷ 31 ∷ 30 ∷ 31 ∷ 30 ∷ 31 ∷ []

-- a day, counted from the first one of the last months of a year, which have these numbers of days
abbrev pub in_months : List ℕ → ℕ → ℕ → Option Date
in_months [] year day = None
in_months (m ∷ ms) year day =
    if nat_le day m then Some (record { year = year; month = 12 - length ms; day = day })
    else in_months ms year (day - m)

-- a day of a year, counted from 1
abbrev pub in_year : ℕ → ℕ → Option Date
in_year year day = if day == 0 then None else in_months (months year) year day

-- the year in the century, and the day, in five digits
abbrev pub in_century : Option ℕ → ℕ → Option Date
in_century (Some first) n = in_year (first + n / 1000) (n % 1000)
in_century None n = None

-- the date in the six characters of a label, if they are a date
abbrev pub date_of : List ℕ → Option Date
date_of [] = None
date_of (c ∷ ds) = if all_ascii_digits ds then in_century (century c) (number_of ds) else None

-- a number in at least two digits
abbrev pub two_digits : ℕ → List ℕ
two_digits n = (if nat_lt n 10 then codes "0" else []) ++ decimal n

-- a date, such as 1985-04-23
abbrev pub day_text : Date → List ℕ
day_text d =
    decimal d.year ++ (codes "-" ++ (two_digits d.month ++ (codes "-" ++ two_digits d.day)))

-- the date, if there is one, or spaces
abbrev pub date_text : Option Date → List ℕ
date_text (Some d) = day_text d
date_text None = codes "          "

-- the date, if there is one
abbrev pub date_cell : Option Date → List ℕ
date_cell (Some d) = day_text d
date_cell None = []
