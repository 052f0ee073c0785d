-- How far an input is read: this project's own.
use Rattle.std.specs.Prelude.{ℕ, ◌+◌, ◌^◌}

-- the most bytes of an input that are read, but for one byte behind them
abbrev pub limit : ℕ
limit = 2 ^ 32 + 2 ^ 20
