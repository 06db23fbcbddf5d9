-- Which types may be sent to another thread, with a name and a representation that may be sent.
use denote.RattleType.{RattleType}
use denote.Param.Send.{IsSend, IsSync, sendable}
use denote.Struct.Field.{u32-field}
use Rattle.std.proofs.Common.{Option}
use Rattle.std.proofs.Crossing.{crosses}
use Rattle.std.specs.declared.sync.ledger.Ledger as Ledger
use Rattle.std.below.core.proofs.ledger.Sent.{share_send, book_send}
use Rattle.share_tree.specs.declared.again.Again as Again
use Rattle.share_tree.specs.declared.again.Held.{Held}
use Rattle.share_tree.specs.declared.keeps.Keeps
use Rattle.stage_graph.specs.declared.places.Places.{Places}
use Rattle.stage_graph.specs.declared.stage.Stage.{Stage}
use Rattle.stage_graph.specs.declared.representation.Representation as Representation
use Rattle.stage_ops.specs.declared.state.State.{State}
use Rattle.rank_order.specs.declared.representation.OrderRepresentation as OrderRepresentation
use Rattle.propagate.specs.declared.representation.StateRepresentation as StateRepresentation
use Rattle.version_store.proofs.Crossing.{version_send, version_sync}
use Rattle.session_core.proofs.Crossing.{entry_send, table_send}
use Rattle.logbook.proofs.tokens.Seen.TheSendSync as seen
use Rattle.logbook.proofs.word.Word.TheSendSync as word
use Rattle.boxcar.proofs.table.Table.TheSendSync as slots
use Rattle.boxcar.proofs.table.Placed.TheSendSync as placed
use Rattle.left_right.proofs.handles.ReadHandle.TheSendSync as read_handle
use Rattle.left_right.proofs.handles.WriteHandle.TheSendSync as write_handle
use Rattle.desk.specs.declared.name.Naming as Naming
use Rattle.desk.specs.contracts.known.Known as known
use Rattle.desk.specs.contracts.front.Front as front
use Rattle.desk.specs.contracts.front.Archive as archive
use Rattle.desk.specs.contracts.shelf.Reader as reader
use Rattle.desk.specs.contracts.shared.Shared as shared
use Rattle.desk.specs.contracts.shared.Shared.TheInside as shared_inside
use Rattle.desk.specs.contracts.shelf.Count as count
use Rattle.left_right.specs.contracts.handles.ReadHandle as read_handle_row
use Rattle.std.specs.contracts.alloc.Global as Heap
use Rattle.std.below.std_heap.specs.contracts.GlobalAllocator.TheImpl.{ghosts}
use denote.Param.SendFields.{declared_send, declared_sync}
use Rattle.desk.specs.contracts.client.Client as client
use Rattle.desk.specs.contracts.client.Client.TheInside as client_inside
use Rattle.desk.specs.contracts.desk.Desk as desk

-- T: the name. T': the representation. T'' to T5: its lists of states, ranks, dependents and stages
module _ (T T' T'' T3 T4 T5 : RattleType) (gn : Naming.Ghosts T.Denot) (gl : Ledger.Ghosts T.Denot)
    (gs : StateRepresentation.Ghosts T'.Denot T''.Denot T3.Denot T4.Denot T5.Denot)
    (go : OrderRepresentation.Ghosts T'.Denot T3.Denot T4.Denot T5.Denot)
    (gr : Representation.Ghosts T'.Denot T5.Denot)
    (k5 : Keeps.Ghosts T5.Denot (Option (Held Stage))) (a5 : Again.Ghosts T5.Denot)
    (k3 : Keeps.Ghosts T3.Denot (u32-field).Value) (a3 : Again.Ghosts T3.Denot)
    (k4 : Keeps.Ghosts T4.Denot (Held Places)) (a4 : Again.Ghosts T4.Denot)
    (k2 : Keeps.Ghosts T''.Denot (Held State)) (a2 : Again.Ghosts T''.Denot)
    (sn : IsSend T) (yn : IsSync T) (s2 : IsSend T'') (y2 : IsSync T'') (s3 : IsSend T3) (y3 : IsSync T3)
    (s4 : IsSend T4) (y4 : IsSync T4) (s5 : IsSend T5) (y5 : IsSync T5) where
  pub front_send : IsSend (front.the_row T T' T'' T3 T4 T5 gn gl gs go gr k5 a5 k3 a3 k4 a4 k2 a2)
  front_send = search (sendable, seen.the_send) depth 60 fits 100000

  pub front_sync : IsSync (front.the_row T T' T'' T3 T4 T5 gn gl gs go gr k5 a5 k3 a3 k4 a4 k2 a2)
  front_sync = search (sendable, seen.the_sync) depth 60 fits 100000

  pub known_send : IsSend (known.the_row T T' T'' T3 T4 T5 gn gl gs go gr k5 a5 k3 a3 k4 a4 k2 a2)
  known_send = let v = version_send T' T'' T3 T4 T5 k5 k3 k4 k2 s2 y2 s3 y3 s4 y4 s5 y5 in let f = front_send in search sendable depth 60 fits 100000

  pub known_sync : IsSync (known.the_row T T' T'' T3 T4 T5 gn gl gs go gr k5 a5 k3 a3 k4 a4 k2 a2)
  known_sync = let v = version_sync T' T'' T3 T4 T5 k5 k3 k4 k2 s2 y2 s3 y3 s4 y4 s5 y5 in let f = front_sync in search sendable depth 60 fits 100000

  reader_count : IsSend (read_handle_row.the_row count.the_row Heap.the_row ghosts)
  reader_count = search (sendable, crosses, read_handle.the_send) depth 60 fits 100000

  pub reader_send : IsSend (reader.the_row T T' T'' T3 T4 T5 gn gl gs go gr k5 a5 k3 a3 k4 a4 k2 a2)
  reader_send = let a = known_send in let b = known_sync in declared_send (reader.the_type T T' T'' T3 T4 T5 gn gl gs go gr k5 a5 k3 a3 k4 a4 k2 a2)
      (search (sendable, reader_count), (search (sendable, crosses, slots.the_send, slots.the_sync) depth 60 fits 100000, tt))

  client_inside_send : IsSend (client_inside.the_row T T' T'' T3 T4 T5 gn gl gs go gr k5 a5 k3 a3 k4 a4 k2 a2)
  client_inside_send = let a = front_send in let b = reader_send in declared_send (client_inside.the_type T T' T'' T3 T4 T5 gn gl gs go gr k5 a5 k3 a3 k4 a4 k2 a2)
      (search sendable, (search (sendable, crosses, entry_send), (search (sendable, share_send), (search sendable, (search sendable, tt)))))

  pub client_send : IsSend (client.the_row T T' T'' T3 T4 T5 gn gl gs go gr k5 a5 k3 a3 k4 a4 k2 a2)
  client_send = let a = client_inside_send in search sendable depth 60 fits 100000

  pub archive_sync : IsSync (archive.the_row T T' T'' T3 T4 T5 gn gl k5 k3 k4 k2 gs go gr a5 a3 a4 a2)
  archive_sync = search (sendable, word.the_sync) depth 60 fits 100000

  module _ (W : RattleType) (sw : IsSend W) where
    shared_inside_send : IsSend (shared_inside.the_row T T' W T'' T3 T4 T5 gn gl gs go gr k5 a5 k3 a3 k4 a4 k2 a2)
    shared_inside_send = let t = table_send T' T'' T3 T4 T5 k5 k3 k4 k2 s2 y2 s3 y3 s4 y4 s5 y5 in let f = front_send in let a = known_send in let b = known_sync in
        declared_send (shared_inside.the_type T T' W T'' T3 T4 T5 gn gl gs go gr k5 a5 k3 a3 k4 a4 k2 a2) (
          search (sendable),
          (
            search sendable,
            (
              search (sendable, book_send),
              (
                search (sendable, share_send),
                (
                  search (sendable, crosses, slots.the_send, slots.the_sync) depth 60 fits 100000,
                  (
                    search (sendable, placed.the_send) depth 60 fits 100000,
                    (search (sendable, crosses, write_handle.the_send) depth 60 fits 100000, tt),
                  ),
                ),
              ),
            ),
          ),
        )

    pub shared_send : IsSend (shared.the_row T T' W T'' T3 T4 T5 gn gl gs go gr k5 a5 k3 a3 k4 a4 k2 a2)
    shared_send = let a = shared_inside_send in search sendable depth 60 fits 100000

    pub desk_sync : IsSync (desk.the_row T T' W T'' T3 T4 T5 gn gl k5 k3 k4 k2 gs go gr a5 a3 a4 a2)
    desk_sync = let a = archive_sync in let b = shared_send in declared_sync (desk.the_type T T' W T'' T3 T4 T5 gn gl k5 k3 k4 k2 gs go gr a5 a3 a4 a2)
        (search sendable, (search (sendable, crosses), (search sendable, tt)))
