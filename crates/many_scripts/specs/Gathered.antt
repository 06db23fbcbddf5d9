-- Lists of what several clients have and have done.
use Rattle.std.specs.Prelude.{◌≡◌, ℕ, List, ◌++◌, map, length, Option, Result, Ok, Err}
use Rattle.std.specs.List.{AllZip, flat_map, zip}
use Rattle.report_form.specs.declared.form.Format.{Format}
use Rattle.session_core.specs.Log.{opening_of}
use Rattle.session_core.specs.Machine.{State}
use Rattle.session_core.specs.TableView.{TableView}
use Rattle.desk.specs.Clients.{ClientView}
use Rattle.desk.specs.Closing.{IsClosed}
use Rattle.many_scripts.specs.Outputs.{log_line}
use Rattle.many_scripts.specs.Scripts.{IsPlay}

-- the seats have these clients and these scripts, in order
pub record AreSeats {S C R : Type 0} (seats : List S) (client : S → C) (script : S → R) (clients : List C) (scripts : List R) : Type 0 where
  pub clients_are : map client seats ≡ clients
  pub scripts_are : map script seats ≡ scripts

-- a client with its result, or the fault
abbrev pub with_client : {C T E : Type 0} → C → Result T E → Result (C × T) E
with_client client (Ok text) = Ok (client, text)
with_client client (Err fault) = Err fault

-- all scripts were played: these are the clients, and the texts one after the other
pub record AreGathered {P C E : Type 0} (plays : List (Result P E)) (client : P → C) (text : P → List ℕ) (clients : List C) (output : List ℕ) : Type 0 where
  pub done : List P
  pub plays_are : plays ≡ map Ok done
  pub clients_are : clients ≡ map client done
  pub output_is : output ≡ flat_map text done

-- each client has played its script: these are the clients before and after, and their texts one after the other
pub record ArePlayed {R : Type 0} (format : Format) (remaining : R → Option (List ℕ)) (failures : R → ℕ) (fresh : List ClientView) (scripts : List R) (clients : List ClientView) (texts : List ℕ) : Type 0 where
  pub done : List (ClientView × List ℕ)
  pub played : AllZip (λ (seat : ClientView × R) (play : ClientView × List ℕ). IsPlay format remaining failures seat.0 seat.1 play.0 play.1) (zip fresh scripts) done
  pub clients_are : clients ≡ map (λ (play : ClientView × List ℕ). play.0) done
  pub texts_are : texts ≡ flat_map (λ (play : ClientView × List ℕ). play.1) done

-- the clients' desk, which has begun so, is closed, and the output is the texts and then how many entries its log has
pub record IsWhole (format : Format) (opening : State) (clients : List ClientView) (texts output : List ℕ) : Type 0 where
  pub log : TableView
  pub closed : IsClosed log clients
  pub opened : opening_of log.state ≡ opening
  pub output_is : output ≡ texts ++ log_line format (length log.history)
