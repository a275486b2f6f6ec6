use Rattle.series_buffer.proofs.head.unpack.Goals as goal

-- What the 28 bytes unpack to, by the unpacker of all that packs
pub returns : goal.returns
returns c = c.unpack.ensures
