-- What is read of a running command, and what it is then.
use Rattle.std.specs.Prelude.{ℕ, ◌+◌, ◌-◌, min, Bool, ◌||◌, nat_eq, List, [], take, drop, Option, Some, None}
use Rattle.std.specs.Prelude.{if◌then◌else◌}
use Rattle.std.specs.Option.{is_none}
use Rattle.cm_running.specs.Running.{Running, is_out, samples}
use Rattle.cm_text.specs.declared.end.End.{End}

-- the end that is reported: of an input only where nothing is left to read
abbrev pub reported_end : Running → Option End
reported_end c = if is_out c.schedule || nat_eq c.r c.w then c.end else None

-- a command runs on: no end of it is reported
abbrev pub runs_on : Running → Bool
runs_on c = is_none (reported_end c)

-- how many samples a read of up to `n` takes
abbrev pub taking : ℕ → Running → ℕ
taking n c = min n (c.w - c.r)

-- a command of which up to `n` more samples were read
abbrev pub read_on : ℕ → Running → Running
read_on n c = record c { r = c.r + taking n c; ra = c.r + taking n c }

-- the samples that a read takes
abbrev pub taken : ℕ → Running → List ℕ
taken n c = take (taking n c) (drop c.r (samples c.schedule))

-- how many samples a map of up to `n` grants
abbrev pub mapping : ℕ → Running → ℕ
mapping n c = min n (c.w - c.ra)

-- a command of which up to `n` more samples are mapped
abbrev pub map_on : ℕ → Running → Running
map_on n c = record c { ra = c.ra + mapping n c }

-- up to `n` of the mapped samples, from the one `from` places after the first on
abbrev pub peeked : ℕ → ℕ → Option Running → List ℕ
peeked from n None = []
peeked from n (Some c) = take n (drop from (take (c.ra - c.r) (drop c.r (samples c.schedule))))

-- how many samples, or words that are marked, a buffer holds
abbrev pub contents : Option Running → ℕ
contents None = 0
contents (Some c) = c.w - c.r
