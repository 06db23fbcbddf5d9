-- The clocks of Zipkin's endpoints.
use Rattle.std.specs.Prelude.{ℕ, List, [], Option, Some, None, Result, Ok}
use Rattle.serde_json.specs.Data.{Data}
use Rattle.trace_spans.specs.declared.fault.Fault.{Fault}
use Rattle.trace_spans.specs.declared.member.Member.TheVariants as member
use Rattle.trace_spans.specs.Clocks.{clock_of}
use Rattle.trace_spans.specs.Members.{then_on, object_in, text_in}

abbrev pub clock_by : Option Data → Result (List (List ℕ)) Fault
clock_by None = Ok (clock_of [] [] [])
clock_by (Some endpoint) =
    then_on (text_in member.ServiceName endpoint) (λ service.
    then_on (text_in member.Ipv4 endpoint) (λ address.
    Ok (clock_of service [] address)))

-- the clock of a span's endpoint
unfoldable pub clock_in : Data → Result (List (List ℕ)) Fault
clock_in span = then_on (object_in member.LocalEndpoint span) clock_by
