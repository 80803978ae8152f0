use Rattle.std.proofs.Common.{◌≡◌, map, length, replicate, vec_items, vec_len}
use Rattle.channel.specs.Letters.{room}
use Rattle.channel.specs.Slots.{space}
use Rattle.channel.proofs.memory.queue_memory.Given as goal

abbrev pub invariant-loop : goal.invariant-loop
invariant-loop l = record {
  counted : vec_len l.slots ≡ l.counter;
  spaces : map space (vec_items l.slots) ≡ replicate (length (vec_items l.slots)) (room l.size.positions);
}
