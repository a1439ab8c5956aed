-- Blocks in strips, and the dots of bands.

-- ---- a block of the lines of a band
