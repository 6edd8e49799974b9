-- What a line requests.
use Rattle.std.specs.Prelude.{◌<◌, ◌-◌, ◌^◌}
use Rattle.std.specs.Int.NonZero.{non_zero_usize_get}
use Rattle.lines.specs.declared.requests.Request.{Request}
use Rattle.lines.specs.declared.requests.Request.TheVariants as request

-- a node can be made where one is asked for
abbrev pub CanServe : {C S : Type 0} → Request C S → Type 0
CanServe (request.Node name given) =
    (non_zero_usize_get given.cfg.max_sets < 2 ^ 64 - 1) × (given.payload.max_bit_vec < 2 ^ 32)
CanServe _ = Unit {0}
