-- What a request and a line that was read mean.
-- Assumes nothing.
use Rattle.std.specs.Prelude.{Option, option_map, vec_items}
use Rattle.model.specs.Of.{call_by}
use Rattle.lines.specs.declared.requests.Request.{Request}
use Rattle.lines.specs.declared.requests.Request.TheVariants as request
use Rattle.lines.specs.Asks.{Asked, Asks, Lists, Helps}

abbrev pub request_of : Request → Asked
request_of (request.Call c) = Asks (call_by vec_items c)
request_of (request.List h) = Lists h
request_of request.Help = Helps

-- of a line that may ask for nothing
abbrev pub parsed_of : Option Request → Option Asked
parsed_of = option_map request_of
