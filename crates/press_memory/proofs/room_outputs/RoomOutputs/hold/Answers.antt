use Rattle.std.proofs.Common.{Some}
use Rattle.press_memory.proofs.RoomLemmas.{held-now}
use Rattle.press_memory.proofs.room_outputs.RoomOutputs.hold.Goals as goal

pub returns-in-Some : goal.returns-in-Some
returns-in-Some g c = held-now (Some c.args.output.items) c.args.self.now.settled c.args.self.now.last c.in-Some.last c.in-Some.is
