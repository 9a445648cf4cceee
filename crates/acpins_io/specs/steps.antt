pub mod HexDecoding
