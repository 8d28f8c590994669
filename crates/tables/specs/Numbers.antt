-- Numbers.
use Rattle.std.specs.Prelude.{ℕ, ◌+◌, ◌-◌, ◌/◌}

-- ceil(n / d): how many parts of d hold n
abbrev pub ceil_div : (n d : ℕ) → ℕ
ceil_div n d = (n + (d - 1)) / d
