pub mod HalvesTest
